-- `spot::sum_bits`: the sum is a number. Assumes nothing.
use Rattle.std.proofs.Common.{not, T, sym, subst, arith}
use lib.Ieee.{Float, is_nan}
use Rattle.bands.proofs.Distance.{sum_number}
use Rattle.bands.proofs.spot.sum_bits.Goals as goal

pub float_to_bits-result : goal.float_to_bits-result
float_to_bits-result c =
    let w = c.args.sides.wide in
    let h = c.args.sides.high in
    subst (λ (z : Float). T (not (is_nan z))) (sym c.square_sum.ensures)
    (sum_number c.args.x c.args.y _ _ (omega (arith, c.requires.0)) (omega (arith, w.0)) (omega (arith, w.1)) (omega (arith, c.requires.1)) (omega (arith, h.0)) (omega (arith, h.1)))
