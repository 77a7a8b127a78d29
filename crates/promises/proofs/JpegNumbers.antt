-- Document 01's P8 and P9, on the definitions: whatever else the rows hold that pass LENT and ROW. Assumes nothing.
use mathlib.Core.Path.{◌≡◌, refl, sym, ap, ◌∙◌}
use mathlib.Core.Bool.{Bool, true, false, cond}
use mathlib.Core.List.{List, [], ◌∷◌}
use Prim.Native.Nat.{ℕ}
use lib.ListN.{get_or}
use lib.Ieee.{round, div}
use Rattle.bitstream.specs.Half.{half}
use Rattle.params.specs.Allowed.{row_at, mode_at, row_allowed}
use Rattle.std.specs.Prelude.{Ok, Err}
use Rattle.dequant.specs.declared.jpeg.JpegError.TheVariants.{None}
use Rattle.dequant.specs.Jpeg.{jpeg_numbers, rounds_to, jpeg_denominator, jpeg_lent, jpeg_answer}
use Rattle.dequant.proofs.JpegLaws.{says_raw}

is_1004 : jpeg_denominator 0x1004 ≡ true
unfolding jpeg_denominator half round div rounds_to
is_1004 = refl

not_1003 : jpeg_denominator 0x1003 ≡ false
unfolding jpeg_denominator half round div rounds_to
not_1003 = refl

not_1005 : jpeg_denominator 0x1005 ≡ false
unfolding jpeg_denominator half round div rounds_to
not_1005 = refl

-- rows and samples that pass LENT and ROW, row 0 raw with a denominator
pub record Asked (rows : List ℕ) (n c d : ℕ) : Type 0 where
  pub lent : jpeg_lent rows n c ≡ true
  pub fine : row_allowed 0 (row_at rows 0) ≡ true
  pub raw : mode_at rows 0 ≡ 7
  pub denominator : get_or rows 3 0 ≡ d

answer : (rows : List ℕ) (n c d : ℕ) (b : Bool) → Asked rows n c d → jpeg_denominator d ≡ b → jpeg_numbers (jpeg_answer rows n c) ≡ jpeg_numbers (cond b (Ok tt) (Err None))
answer rows n c d b a e = ap jpeg_numbers (sym (says_raw rows n c a.lent a.fine b a.raw (sym (ap jpeg_denominator a.denominator ∙ e))))

pub p8 : (rows : List ℕ) (n c : ℕ) → Asked rows n c 0x1004 → jpeg_numbers (jpeg_answer rows n c) ≡ 0 ∷ []
p8 rows n c a = answer rows n c 0x1004 true a is_1004

pub p9 : (rows : List ℕ) (n c : ℕ) → (Asked rows n c 0x1003 → jpeg_numbers (jpeg_answer rows n c) ≡ 11 ∷ []) × (Asked rows n c 0x1005 → jpeg_numbers (jpeg_answer rows n c) ≡ 11 ∷ [])
p9 rows n c = (λ a. answer rows n c 0x1003 false a not_1003, λ a. answer rows n c 0x1005 false a not_1005)
