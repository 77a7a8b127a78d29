-- `slices::put` meets its contract. The loop's invariant: i weights are copied. Assumes nothing.
use mathlib.Core.Path.{◌≡◌}
use lib.ListN.{length}
use lib.Seq.{paste}
use Rattle.slices.proofs.put.Given as goal

abbrev pub invariant-loop-i : goal.invariant-loop-i
invariant-loop-i l = (length l.arena ≡ length l.initial.arena) × (l.arena ≡ paste l.initial.arena l.at l.weights l.i)
