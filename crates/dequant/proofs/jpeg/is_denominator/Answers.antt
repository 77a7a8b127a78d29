-- `jpeg::is_denominator` meets its contract: a half that is not refused has its value. Assumes nothing.
use mathlib.Core.Path.{ap, ◌∙◌}
use mathlib.Core.Bool.{false}
use lib.IntN.{pos}
use lib.Ieee.{Float, fin, binary32, div, of_bits}
use Rattle.bitstream.proofs.HalfLaws.{given_value}
use Rattle.dequant.specs.Jpeg.{rounds_to, jpeg_denominator}
use Rattle.dequant.proofs.jpeg.is_denominator.Goals as goal

pub returns : goal.returns
unfolding jpeg_denominator of_bits
returns c =
    c.is_2040.ensures
    ∙ ap (λ (x : Float). rounds_to (div binary32 (fin false 1 (pos 0)) x) 2040) (given_value _ _ _ c.requires c.half_to_f32.ensures c.unwrap.ensures)
