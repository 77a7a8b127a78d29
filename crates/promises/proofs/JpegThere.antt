-- There are rows with JPEG values, and rows without: row 0 raw of the denominator named, 16 rows of zeros behind it. Assumes nothing.
use mathlib.Core.Path.{◌≡◌, refl, sym, ap, ◌∙◌}
use mathlib.Core.Bool.{true, false}
use mathlib.Core.List.{List, [], ◌∷◌}
use Prim.Native.Nat.{ℕ, ◌<◌}
use native.Mathlib.Nat.{le_of_suc-le-suc}
use lib.Dec.{lit<}
use lib.IntN.{ℤ, pos}
use lib.ListN.{length, replicate}
use Rattle.bitstream.specs.Half.{barred}
use Rattle.params.specs.Allowed.{row_allowed}
use Rattle.matrix.specs.Expanded.{reply_of}
use Rattle.matrix.proofs.Lending.{all_samples}
use Rattle.matrix.proofs.OddLaws.{not_odd_lem}
use Rattle.dequant.specs.Set.{expand_set}
use Rattle.dequant.specs.Jpeg.{jpeg_numbers, jpeg_answer, jpeg_values}
use Rattle.dequant.proofs.JpegLaws.{by_samples}
use Rattle.promises.proofs.RawOnes.{raw_first, raw_allowed, first_same}
use Rattle.promises.proofs.RowRule.{zero_row, raw_row}
use Rattle.promises.proofs.Headed.{headed_first, headed_length}
use Rattle.promises.proofs.JpegNumbers.{Asked, p8, p9}
use Rattle.promises.proofs.NumbersToHold.{p12}
use Rattle.promises.proofs.JpegPart.{done_length}

-- what P8 and P9 ask is met: for every denominator that reading lets pass, and every channel
pub asked_there : (d c : ℕ) → barred d ≡ false → c < 3 → Asked (raw_first d) 394752 c d
asked_there d c e h = record {
  lent = sym (by_samples (raw_first d) 394752 c true (headed_length (raw_row d) zero_row refl refl) (le_of_suc-le-suc h) (all_samples 394752 394752 7 refl));
  fine = ap (row_allowed 0) (headed_first (raw_row d) zero_row refl refl) ∙ raw_allowed 0 d (lit< tt) e;
  raw = refl;
  denominator = refl;
}

-- denominator 1004: whatever the 394,752 samples, the answer is DONE and the part 64 long
pub jpeg_there : (zs : List ℤ) (c : ℕ) → length zs ≡ 394752 → c < 3
    → (jpeg_numbers (jpeg_answer (raw_first 0x1004) (length zs) c) ≡ 0 ∷ []) × (length (jpeg_values (raw_first 0x1004) zs c) ≡ 64)
jpeg_there zs c l h =
    let e : jpeg_numbers (jpeg_answer (raw_first 0x1004) (length zs) c) ≡ 0 ∷ [] =
    ap (λ (n : ℕ). jpeg_numbers (jpeg_answer (raw_first 0x1004) n c)) l ∙ p8 (raw_first 0x1004) 394752 c (asked_there 0x1004 c refl h) in
    (e, done_length (raw_first 0x1004) zs c e)

-- 1003 and 1005: NONE
pub none_there : (c : ℕ) → c < 3
    → (jpeg_numbers (jpeg_answer (raw_first 0x1003) 394752 c) ≡ 11 ∷ []) × (jpeg_numbers (jpeg_answer (raw_first 0x1005) 394752 c) ≡ 11 ∷ [])
none_there c h = ((p9 (raw_first 0x1003) 394752 c).0 (asked_there 0x1003 c refl h), (p9 (raw_first 0x1005) 394752 c).1 (asked_there 0x1005 c refl h))

-- ---- and such a set is expanded
-- with all samples 16 the set that has these JPEG values is accepted as a whole
pub jpeg_set_done : reply_of (expand_set (raw_first 0x1004) (replicate 394752 (pos 16)) 394752 394752) ≡ 0 ∷ []
jpeg_set_done = first_same 0x1004 refl (not_odd_lem 0x1004 (lit< tt) (lit< tt)) (pos 16) p12.1 394752 refl
