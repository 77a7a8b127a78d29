-- `bitstream::half::scaled` meets its contract: the factor is 2 ^ x / 2 ^ 24, and the product of two values rounds once. Assumes nothing.
use Rattle.bitstream.proofs.HalfLaws.{factor_number, scaled_is}
use borrow.Author.Rules.{rules}
use Rattle.bitstream.proofs.half.scaled.Goals as goal

pub float_from_bits-factor : goal.float_from_bits-factor
float_from_bits-factor c = factor_number c.args.x (search rules)

pub returns : goal.returns
returns c = rw c.from.ensures (scaled_is c.args.q c.args.x (search rules) (search rules))
