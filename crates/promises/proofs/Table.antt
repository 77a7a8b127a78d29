-- Document 01's numbers to hold, P1 to P13, as one table under a single theorem on the definitions. Assumes nothing.
use mathlib.Core.Path.{◌≡◌, refl, sym, ap, ◌∙◌, subst}
use mathlib.Core.Bool.{true, false}
use mathlib.Core.List.{List, [], ◌∷◌}
use Prim.Native.Nat.{ℕ, ◌<◌}
use lib.Dec.{lit<}
use lib.IntN.{ℤ, pos, negsuc}
use lib.ListN.{length, get_or, replicate, length-replicate, get_or-replicate}
use lib.Ieee.{Float, nan, fin}
use Rattle.std.specs.Prelude.{Some}
use Rattle.bitstream.specs.Half.{half, barred, half_answer, half_reply}
use Rattle.bitstream.proofs.Numbers as halves
use Rattle.params.specs.Header.{reply_of, read_header}
use Rattle.params.specs.Allowed.{check_rows, check_reply}
use Rattle.params.proofs.Numbers as headers
use Rattle.matrix.specs.Raw.{odd_denominator, weight_of, refused}
use Rattle.matrix.specs.Mirror.{straight_place, transposed_place, mirror}
use Rattle.matrix.specs.Weight.{weights_of}
use Rattle.matrix.specs.Expanded.{reply_of as expanded_reply, expand_answer, leaves}
use Rattle.matrix.proofs.OddLaws.{not_odd_lem}
use Rattle.dequant.specs.Set.{straight_arena, set_lent, expand_set}
use Rattle.dequant.specs.Jpeg.{jpeg_numbers, jpeg_answer}
use Rattle.bands.proofs.Numbers.{P7, p7}
use Rattle.promises.proofs.ByNumber.{done_only}
use Rattle.promises.proofs.Accepts.{Above}
use Rattle.promises.proofs.NumbersToHold as weights
use Rattle.promises.proofs.RowRule.{zero_row, raw_row}
use Rattle.promises.proofs.Headed.{headed_length}
use Rattle.promises.proofs.RawOnes.{raw_first, whole_lent, first_passes, first_above, first_same}
use Rattle.promises.proofs.JpegNumbers.{Asked, p8, p9}
use Rattle.promises.proofs.JpegThere.{asked_there}
use Rattle.promises.proofs.FirstWeight.{Begins, set_first, set_refused, Raw, first_weight, first_refused, raw_there}

-- ---- what a line of the table says

-- a header read from bit 0 at kind 0 gives a reply, whatever the 2,176 numbers of the rows were before
abbrev pub ReadsTo : List ℕ → List ℕ → Type 0
ReadsTo header reply = (rows : List ℕ) → length rows ≡ 2176 → reply_of (read_header header 0 0 rows).answer ≡ reply

-- JPEG values at a denominator: a reply for all rows, samples and channels that pass LENT and ROW with row 0 raw of it; and there are such for every channel
pub record Values (d : ℕ) (reply : List ℕ) : Type 0 where
  pub answers : (rows : List ℕ) (n c : ℕ) → Asked rows n c d → jpeg_numbers (jpeg_answer rows n c) ≡ reply
  pub there : (c : ℕ) → c < 3 → (rows : List ℕ) × (n : ℕ) × Asked rows n c d

-- A sample times a denominator is a weight that is not refused. Of every set that is accepted, with row 0 raw of that denominator and that sample the first, `expand` leaves it at place 0
-- of the straight arena, whatever stood there; and there is such a set. Of kind 0 by itself it is the weight at place 0.
pub record Gives (d : ℕ) (z : ℤ) (w : Float) : Type 0 where
  pub product : weight_of (half d) z ≡ w
  pub passes : refused w ≡ false
  pub holds : (rows : List ℕ) (zs : List ℤ) (straight : List Float) → Begins rows zs d z → expanded_reply (expand_set rows zs 394752 394752) ≡ 0 ∷ []
      → get_or (leaves (expand_set rows zs 394752 394752) (straight_arena rows zs) straight) 0 nan ≡ w
  pub there : (rows : List ℕ) × (zs : List ℤ) × Begins rows zs d z × (expanded_reply (expand_set rows zs 394752 394752) ≡ 0 ∷ [])
  pub alone : (row : List ℕ) (zs : List ℤ) → Raw row zs d z → get_or (weights_of row zs 0) 0 nan ≡ w
  pub alone_there : (row : List ℕ) × (zs : List ℤ) × Raw row zs d z

-- A sample times a denominator is refused. Every set that passes LENT, ROW and DENOM, with row 0 raw of that denominator and that sample the first, is WEIGHT with kind 0, channel 0, place 0;
-- and there is such a set. So is kind 0 by itself.
pub record Refuses (d : ℕ) (z : ℤ) : Type 0 where
  pub product : refused (weight_of (half d) z) ≡ true
  pub replies : (rows : List ℕ) (zs : List ℤ) → Begins rows zs d z → set_lent rows (length zs) 394752 394752 ≡ true → check_reply (check_rows rows) ≡ 0 ∷ [] → Above rows
      → expanded_reply (expand_set rows zs 394752 394752) ≡ 8 ∷ 0 ∷ 0 ∷ 0 ∷ []
  pub there : (rows : List ℕ) × (zs : List ℤ) × Begins rows zs d z × (set_lent rows (length zs) 394752 394752 ≡ true) × (check_reply (check_rows rows) ≡ 0 ∷ []) × Above rows
  pub alone : (row : List ℕ) (zs : List ℤ) → Raw row zs d z → expanded_reply (expand_answer 0 row zs 192 192) ≡ 8 ∷ 0 ∷ 0 ∷ 0 ∷ []
  pub alone_there : (row : List ℕ) × (zs : List ℤ) × Raw row zs d z

-- ---- the table
pub record Table : Type 0 where
  -- byte 01: DONE, next bit 1; seven zero bytes: DONE, next bit 52; six: SHORT, kind 15, bit 46, 1 bit is lacking; bytes 00 20: MODE, kind 4, bit 13
  pub p1 : ReadsTo (1 ∷ []) (0 ∷ 1 ∷ [])
  pub p2 : ReadsTo (replicate 7 0) (0 ∷ 52 ∷ [])
  pub p3 : ReadsTo (replicate 6 0) (2 ∷ 15 ∷ 46 ∷ 1 ∷ [])
  pub p4 : ReadsTo (0 ∷ 32 ∷ []) (3 ∷ 4 ∷ 13 ∷ [])
  -- half 7bff is 65504 = 2047 x 2 ^ 5, 7c00 FLOAT: by itself, and as kind 0's first number, at bit 4; half 0001 is 2 ^ -24
  pub p5 : half_answer 0x7bff ≡ Some (fin false 2047 (pos 5))
  pub p5_float : (half_reply (half_answer 0x7c00) ≡ 4 ∷ []) × ReadsTo (0x02 ∷ 0xc0 ∷ 0x07 ∷ []) (4 ∷ 0 ∷ 4 ∷ [])
  pub p6 : half_answer 0x0001 ≡ Some (fin false 1 (negsuc 23))
  -- mult(-1) = 0.5, mult(1) = 2, mult(0) = 1
  pub p7 : P7
  -- denominator 1004: JPEG values, DONE; 1003 and 1005: NONE
  pub p8 : Values 0x1004 (0 ∷ [])
  pub p9 : Values 0x1003 (11 ∷ []) × Values 0x1005 (11 ∷ [])
  -- denominator 7bff: sample 1526 gives 99,959,104 = 1,561,861 x 2 ^ 6; 1527 WEIGHT
  pub p10 : Gives 0x7bff (pos 1526) (fin false 1561861 (pos 6)) × Refuses 0x7bff (pos 1527)
  -- denominator 3c00: sample 99,999,995 gives 99,999,992 = 12,499,999 x 2 ^ 3; 99,999,996 WEIGHT
  pub p11 : Gives 0x3c00 (pos 99999995) (fin false 12499999 (pos 3)) × Refuses 0x3c00 (pos 99999996)
  -- denominator 1004, sample 16: 257/32768
  pub p12 : Gives 0x1004 (pos 16) (fin false 257 (negsuc 14))
  -- kind 6: straight place 17 (row 1, column 1) is transposed 9, 1 (row 0, column 1) is 8; and there the weights stand, whatever weights the kind has
  pub p13 : (straight_place 6 0 1 1 ≡ 17) × (transposed_place 6 0 1 1 ≡ 9) × (straight_place 6 0 0 1 ≡ 1) × (transposed_place 6 0 0 1 ≡ 8)
  pub p13_mirror : (ws : List Float) → (get_or (mirror 6 ws) 9 nan ≡ get_or ws 17 nan) × (get_or (mirror 6 ws) 8 nan ≡ get_or ws 1 nan)

-- ---- each line by its number
values : (d : ℕ) (reply : List ℕ) → barred d ≡ false → ((rows : List ℕ) (n c : ℕ) → Asked rows n c d → jpeg_numbers (jpeg_answer rows n c) ≡ reply) → Values d reply
values d reply fine f = record { answers = f; there = λ c h. (raw_first d, 394752, asked_there d c fine h) }

-- row 0 raw, 16 rows of zeros behind it, and n samples that are all the same
module _ (d : ℕ) (z : ℤ) (fine : barred d ≡ false) (above : odd_denominator d ≡ false) (n : ℕ) (whole : n ≡ 394752) where
  begins : Begins (raw_first d) (replicate n z) d z
  begins = record { raw = refl; denominator = refl; first = get_or-replicate n 0 z (pos 0) (subst (λ (m : ℕ). 0 < m) (sym whole) (lit< tt)) }

  one_row : (row : List ℕ) × (zs : List ℤ) × Raw row zs d z
  one_row = (raw_row d, z ∷ replicate 191 z, raw_there d z (replicate 191 z) fine above (length-replicate 191 z))

  gives : (w : Float) → weight_of (half d) z ≡ w → refused (weight_of (half d) z) ≡ false → Gives d z w
  gives w e f = record {
    product = e;
    passes = ap refused (sym e) ∙ f;
    holds = λ rows zs straight b a. rw (done_only (expand_set rows zs 394752 394752) a) (set_first rows zs d z b ∙ e);
    there = (raw_first d, replicate n z, begins, first_same d fine above z f n whole);
    alone = λ row zs r. first_weight row zs d z r ∙ e;
    alone_there = one_row;
  }

  refuses : refused (weight_of (half d) z) ≡ true → Refuses d z
  refuses e = record {
    product = e;
    replies = λ rows zs b lent ok high. set_refused rows zs d z b 394752 394752 lent ok high e;
    there = (raw_first d, replicate n z, begins, whole_lent (raw_first d) (replicate n z) (headed_length (raw_row d) zero_row refl refl) (length-replicate n z ∙ whole), first_passes d fine, first_above d above);
    alone = λ row zs r. first_refused row zs d z r e;
    alone_there = one_row;
  }

pub table_holds : Table
table_holds = record {
  p1 = λ rows l. (headers.numbers_hold rows l).p1;
  p2 = λ rows l. (headers.numbers_hold rows l).p2;
  p3 = λ rows l. (headers.numbers_hold rows l).p3;
  p4 = λ rows l. (headers.numbers_hold rows l).p4;
  p5 = halves.p5;
  p5_float = (halves.p5_float, λ rows l. (headers.numbers_hold rows l).p5);
  p6 = halves.p6;
  p7 = p7;
  p8 = values 0x1004 (0 ∷ []) refl p8;
  p9 = (values 0x1003 (11 ∷ []) refl (λ rows n c. (p9 rows n c).0), values 0x1005 (11 ∷ []) refl (λ rows n c. (p9 rows n c).1));
  p10 = (gives 0x7bff (pos 1526) refl (not_odd_lem 0x7bff (lit< tt) (lit< tt)) 394752 refl (fin false 1561861 (pos 6)) (weights.p10).0 (weights.p10).1, refuses 0x7bff (pos 1527) refl (not_odd_lem 0x7bff (lit< tt) (lit< tt)) 394752 refl (weights.p10).2);
  p11 = (gives 0x3c00 (pos 99999995) refl (not_odd_lem 0x3c00 (lit< tt) (lit< tt)) 394752 refl (fin false 12499999 (pos 3)) (weights.p11).0 (weights.p11).1, refuses 0x3c00 (pos 99999996) refl (not_odd_lem 0x3c00 (lit< tt) (lit< tt)) 394752 refl (weights.p11).2);
  p12 = gives 0x1004 (pos 16) refl (not_odd_lem 0x1004 (lit< tt) (lit< tt)) 394752 refl (fin false 257 (negsuc 14)) (weights.p12).0 (weights.p12).1;
  p13 = weights.p13_places;
  p13_mirror = weights.p13;
}
