-- `numbers::scaled` meets its contract. Assumes nothing.
use Rattle.std.proofs.Common.{Bool, sym, ap}
use lib.Ieee.{of_bits}
use Rattle.matrix.specs.Numbers.{times64}
use Rattle.matrix.proofs.numbers.scaled.Goals as goal

pub returns-then-yes : goal.returns-then-yes
unfolding of_bits
returns-then-yes c = sym (ap (λ (t : Bool). times64 t c.args.x) c.if-yes.true)

pub returns-else-yes : goal.returns-else-yes
returns-else-yes c = sym (ap (λ (t : Bool). times64 t c.args.x) c.if-yes.false)
