-- `raw::fill_raw` meets its contract. The invariant: the first i weights stand in front. Assumes nothing.
use Rattle.std.proofs.Common.{◌≡◌, get_or, pos}
use lib.Seq.{sets}
use Rattle.bands.specs.Table.{tab}
use Rattle.matrix.specs.Raw.{weight_of}
use Rattle.matrix.proofs.raw.fill_raw.Given as goal

abbrev pub invariant-loop-i : goal.invariant-loop-i
invariant-loop-i l = l.straight ≡ sets l.initial.straight 0 (tab l.i (λ k. weight_of l.denominator (get_or l.samples k (pos 0))))
