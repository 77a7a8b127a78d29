-- `outputs::weight` meets its contract: the callee reads the sample back from its bits, which is the sample, since it fits. Assumes nothing.
use Rattle.std.proofs.Common.{ℤ, ap, ◌∙◌, w32}
use lib.Ieee.{Float, binary32, mul, of_int}
use mir.ValLaws.{to_z-of_z}
use Rattle.matrix.specs.Raw.{weight_of}
use Rattle.matrix.proofs.raw.weight.Goals as goal

pub returns : goal.returns
unfolding weight_of
returns c =
    ap (λ (x : Float). mul binary32 x c.args.denominator)
    (c.nearest_i32_to_f32.ensures ∙ ap (λ (z : ℤ). of_int binary32 z) (to_z-of_z w32 c.args.sample c.ranges.sample))
