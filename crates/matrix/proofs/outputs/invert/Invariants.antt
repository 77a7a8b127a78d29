-- `outputs::invert`: from the front. Assumes nothing.
use Rattle.std.proofs.Common.{◌≡◌}
use lib.Seq.{sets}
use lib.Ieee.{nan, binary32, div}
use Rattle.std.proofs.Common.{get_or}
use Rattle.bands.specs.Bands.{one}
use Rattle.bands.specs.Table.{tab}
use Rattle.matrix.proofs.outputs.invert.Given as goal

abbrev pub invariant-loop-w : goal.invariant-loop-w
invariant-loop-w l = l.s ≡ sets l.initial.s 0 (tab l.w-index (λ k. div binary32 one (get_or l.initial.s k nan)))
