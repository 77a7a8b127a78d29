-- `position` is `position_of`. Assumes nothing.
use Rattle.std.proofs.Common.{◌≡◌, ◌-◌, pos, refl, ap, ◌∙◌}
use lib.Ieee.{Float, binary32, add, mul, div, of_int, of_bits, round, size}
use Rattle.bands.specs.Root.{root_of, twice}
use Rattle.bands.specs.Position.{reach_of, position_of}
use Rattle.bands.proofs.spot.position.Goals as goal

-- the constant as MIR has it
as_written : add binary32 (of_bits binary32 0x3fb5_04f3) (of_bits binary32 0x3586_37bd) ≡ reach_of
unfolding add of_bits reach_of root_of twice round size
as_written = refl

pub returns : goal.returns
unfolding position_of
returns c = ap (λ (z : Float). div binary32 (mul binary32 c.args.d z) _) c.from.ensures ∙ ap (λ (m : Float). div binary32 (mul binary32 c.args.d (of_int binary32 (pos (c.args.bands - 1)))) m) as_written
