-- `lanes::turn_eight`: each lane takes its turn (`Passing`). Assumes nothing.
use Rattle.bands.proofs.InLanes.{Passing}
use Rattle.bands.proofs.lanes.turn_eight.Given as goal

abbrev pub invariant-loop-i : goal.invariant-loop-i
invariant-loop-i l = Passing l.initial.root l.initial.rem l.initial.left l.root l.rem l.left l.i
