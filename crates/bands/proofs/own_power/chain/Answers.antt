-- `own_power::chain` meets its contract: up to the place of `root` the list holds the chain's numbers, and `last` is the next one (`Filling`). Assumes nothing.
use Rattle.std.proofs.Common.{refl, arith}
use Rattle.bands.proofs.ChainLists.{filling_none, filling_more, filling_all, filling_small}
use Rattle.bands.proofs.own_power.chain.Goals as goal

pub loop-root-init : goal.loop-root-init
loop-root-init c = filling_none _ _ refl

pub overflow_mul-last : goal.overflow_mul-last
overflow_mul-last c = omega (arith, filling_small _ _ _ _ c.ranges.s.fits c.loop-root.invariant)

pub loop-root-preserved : goal.loop-root-preserved
loop-root-preserved c = filling_more _ _ _ _ _ c.loop-root.invariant c.loop-root-test.true c.whole_root-last.ensures

pub returns : goal.returns
returns c = filling_all _ _ _ _ c.loop-root-test.false c.loop-root.invariant
