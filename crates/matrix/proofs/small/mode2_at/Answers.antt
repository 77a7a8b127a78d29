-- `small::mode2_at`: three layers. Assumes nothing.
use Rattle.std.proofs.Common.{ap, ◌∙◌}
use lib.Ieee.{of_bits}
use Rattle.matrix.specs.Numbers.{number_of}
use Rattle.matrix.specs.Weight.{layer, mode2}
use Rattle.matrix.proofs.small.mode2_at.Goals as goal

pub returns : goal.returns
unfolding mode2 of_bits
returns c =
    let a = c.args in
    c.layer_at.ensures
    ∙ ap (layer (number_of a.n.now a.c) 1 0 a.y a.x) (c.layer_at-second.ensures ∙ ap (layer (number_of a.n.now a.c) 2 2 a.y a.x) c.layer_at-third.ensures)
