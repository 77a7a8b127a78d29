-- `outputs::refuses` meets its contract: the three tests in turn, and only a NaN differs from itself. Assumes nothing.
use Rattle.std.proofs.Common.{◌≡◌, true, false, refl, arith}
use Rattle.std.proofs.lemmas.Grind.{common_steps}
use lib.Ieee.{Float, nan, inf, fin, of_bits, is_nan, ne}
use Rattle.matrix.specs.Raw.{refused}
use Rattle.matrix.proofs.outputs.refuses.Goals as goal

differs : (x : Float) → is_nan x ≡ ne x x
unfolding is_nan ne
differs nan = refl
differs (inf false) = refl
differs (inf true) = refl
differs (fin s m e) = grind (arith, common_steps)

pub returns-then-w-2 : goal.returns-then-w-2
unfolding refused of_bits
returns-then-w-2 c = grind (arith, common_steps)

pub returns-else-w-2 : goal.returns-else-w-2
unfolding refused of_bits
returns-else-w-2 c = grind (arith, common_steps, differs c.args.w, c.is_nan.ensures.value)
