-- `three::put_chains`: j numbers of each of eight chains are laid (`Linking`). Assumes nothing.
use Rattle.bands.proofs.Tables.{Linking}
use Rattle.bands.proofs.three.put_chains.Given as goal

abbrev pub invariant-loop-j : goal.invariant-loop-j
invariant-loop-j l = Linking l.initial.all l.at l.initial.last l.all l.last l.j
