-- `lanes::digits_eight`: as many digits of each root are to come as turns (`Coming`). Assumes nothing.
use Rattle.std.proofs.Common.{arith}
use Rattle.bands.proofs.InLanes.{coming_turning, coming_more, coming_all}
use Rattle.bands.proofs.lanes.digits_eight.Goals as goal

pub turn_eight-requires : goal.turn_eight-requires
turn_eight-requires c = coming_turning _ _ _ _ _ _ _ _ (omega arith) c.requires c.loop.invariant

pub loop-preserved : goal.loop-preserved
loop-preserved c = coming_more _ _ _ _ _ _ _ _ _ _ _ c.loop-test.true c.loop.invariant c.turn_eight.ensures

pub returns : goal.returns
returns c = coming_all _ _ _ _ _ _ _ _ (omega arith) c.loop.invariant
