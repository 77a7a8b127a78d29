-- The steps of a cut position's fraction are the n of its fraction n / 2 ^ 32. Assumes nothing.
use mathlib.Core.Path.{◌≡◌, ◌∙◌}
use mathlib.Core.Bool.{false}
use Prim.Native.Nat.{ℕ, ◌*◌, ◌^◌, ◌<◌}
use native.Mathlib.Nat.{mul-lt-mul_of_pos_right, lt_of_lt_of_le, mul-div_cancel}
use lib.Dec.{T, lit≤}
use lib.Pow.{pow_pos}
use lib.IntN.{pos}
use lib.Ieee.{Float, binary32, fits, mul, of_int, of_bits, to_unsigned}
use lib.Ieee.Exact.{HasValue}
use lib.Ieee.Fits.{sub-fits}
use Rattle.bands.specs.Position.{index_of, fraction_of, Cut}
use Rattle.bands.specs.Weights.{steps_of}
use Rattle.bands.proofs.Position.{index_value}
use Rattle.bands.proofs.TimesPower.{times_power}

-- x is n / 2 ^ 32, and n is small: x * 2 ^ 32 is n, exact
module _ (x : Float) (n : ℕ) (small : n < 2 ^ 64) (held : T (fits binary32 x)) (v : HasValue x false n (2 ^ 32)) where
  raised_value : HasValue (mul binary32 x (of_bits binary32 0x4f80_0000)) false (n * 2 ^ 32) (2 ^ 32)
  unfolding of_bits
  raised_value = times_power x 32 n (2 ^ 32) (pow_pos 32) held v (mul-lt-mul_of_pos_right {n = 2 ^ 128} (lt_of_lt_of_le small (lit≤ tt)) (pow_pos 32))

  raised_under : n * 2 ^ 32 < 2 ^ 64 * 2 ^ 32
  raised_under = mul-lt-mul_of_pos_right {n = 2 ^ 64} small (pow_pos 32)

  raised_is : to_unsigned 64 (mul binary32 x (of_bits binary32 0x4f80_0000)) ≡ n
  raised_is = index_value (mul binary32 x (of_bits binary32 0x4f80_0000)) (n * 2 ^ 32) (2 ^ 32) (pow_pos 32) raised_under raised_value ∙ mul-div_cancel n (pow_pos 32)

pub steps_is : (p : Float) (b : ℕ) (c : Cut b p) → steps_of (fraction_of p) ≡ c.n
unfolding of_bits
steps_is p b c = raised_is (fraction_of p) c.n (lt_of_lt_of_le c.small (lit≤ tt)) (sub-fits binary32 p (of_int binary32 (pos (index_of p)))) c.fraction
