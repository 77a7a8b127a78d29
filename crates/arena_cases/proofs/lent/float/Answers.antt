use Rattle.std.proofs.Common.{◌%◌, ◌^◌, Bool, not, T, sym, subst}
use lib.Ieee.{binary32}
use lib.Ieee.Bits.{nan_bits_above}
use lib.Arith.{le→nltb}
use Rattle.arena_cases.proofs.lent.float.Goals as goal

pub float_from_bits-result : goal.float_from_bits-result
float_from_bits-result c = subst (λ (t : Bool). T (not t)) (sym (nan_bits_above binary32 c.args.bits)) (le→nltb 0x7f800000 (c.args.bits % 2 ^ 31) c.if-bits-gt2139095040.false)
