-- `own_power::chain` meets its contract: up to the place of `root` the list holds the chain's numbers, and `last` is the next one (`Filling`). Assumes nothing.
use Rattle.bands.proofs.ChainLists.{Filling}
use Rattle.bands.proofs.own_power.chain.Given as goal

abbrev pub invariant-loop-root : goal.invariant-loop-root
invariant-loop-root l = Filling l.s l.root-items l.last l.root-index
