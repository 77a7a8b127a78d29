-- `lift` meets its contract: `Lifting` is its invariant. Assumes nothing.
use Rattle.bands.proofs.Lift.{Lifting}
use Rattle.bands.proofs.root.lift.Given as goal

abbrev pub invariant-loop-n : goal.invariant-loop-n
invariant-loop-n l = Lifting l.m l.e l.n l.h

abbrev pub decreases-loop-n : goal.decreases-loop-n
decreases-loop-n l = l.h
