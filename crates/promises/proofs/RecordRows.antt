-- A row and samples that the record's format allows pass the ROW check. Assumes nothing.
use mathlib.Core.Path.{◌≡◌, refl, sym, ap, ◌∙◌, subst, subst⁻¹}
use mathlib.Core.List.{List, [], ◌∷◌, ◌++◌}
use mathlib.Core.Bool.{Bool, true, false, not, ◌&&◌}
use Prim.Native.Nat.{ℕ, zero, suc, ◌+◌, ◌*◌, ◌-◌, ◌/◌, ◌%◌, ◌≤◌, ◌<◌}
use native.Mathlib.Omega.{arith}
use borrow.Author.Tests.{lt-ltb, le-leb, eq-eqb, ne_eqb}
use lib.IntN.{ℤ, pos, negsuc}
use lib.ListN.{length, get_or, take, drop, replicate}
use lib.Seq.{drop_at}
use lib.Dec.{T, eqb, leb, ltb}
use Rattle.bitstream.specs.Half.{barred}
use Rattle.params.specs.Row.{fixed, lists, allowed}
use Rattle.params.specs.Allowed.{all_fine, count_ok, entry_row}
use Rattle.transform.specs.Zeros.{all_zero}
use Rattle.params.proofs.AllowedLaws.{and_true, and_both}
use Rattle.transform.proofs.ZeroLaws.{of_zeros}
use Rattle.record.specs.Format.{Format, seqs, uncons}
use Rattle.record.specs.Text.{bytes}
use Rattle.record.specs.Number.{is_digit, number, signed}
use Rattle.record.specs.Half.{is_hex, hex_value, hex_byte, may_follow, half, Finite}
use Rattle.record.specs.Record.{items, end_of, line, mode_ok, number_count, sample_count, mode_lines, entry}
use Rattle.record.specs.Rows.{Row, slots, row_of, counts_of, entry_of, row_format}
use Rattle.record.specs.Description.{fits32, Each}
use Rattle.record.specs.Stored.{Ready}
use Rattle.record.proofs.HalfLaws.{is_true, half_bound, byte_hex}
use Rattle.record.proofs.KindStores.{ready}
use Rattle.promises.proofs.RowRule.{small_same}

mode_allowed : (k m : ℕ) → (mode_lines k).Ok m → allowed k m ≡ true
mode_allowed k m o =
    let q : 48 + m - 48 ≡ m = omega arith in
    let t : (is_digit (48 + m) ≡ true) × (mode_ok k (48 + m - 48) ≡ true) = and_true (is_digit (48 + m)) (mode_ok k (48 + m - 48)) (is_true (is_digit (48 + m) && mode_ok k (48 + m - 48)) o.0.0.0.1.0) in
    let u : (ltb (48 + m - 48) 8 ≡ true) × (allowed k (48 + m - 48) ≡ true) = and_true (ltb (48 + m - 48) 8) (allowed k (48 + m - 48)) t.1 in
    ap (allowed k) (sym q) ∙ u.1

counts_pass : (n c d : ℕ) → n ≤ 2 → (line (bytes "bands=") 0 (number 16) n).Ok (take n (c ∷ d ∷ [])) → c ≡ get_or (take n (c ∷ d ∷ [])) 0 0 → d ≡ get_or (take n (c ∷ d ∷ [])) 1 0
    → (count_ok (leb 1 n) c ≡ true) × (count_ok (leb 2 n) d ≡ true) × (c ≤ 16) × (d ≤ 16)
counts_pass zero c d h o e f = (eq-eqb c 0 e, eq-eqb d 0 f, omega arith, omega arith)
counts_pass (suc zero) c d h o e f =
    let x : (1 ≤ c) × (c ≤ 16) = o.0.1.0.0 in
    (and_both (leb 1 c) (leb c 16) (le-leb 1 c x.0) (le-leb c 16 x.1), eq-eqb d 0 f, x.1, omega arith)
counts_pass (suc (suc zero)) c d h o e f =
    let x : (1 ≤ c) × (c ≤ 16) = o.0.1.0.0 in
    let y : (1 ≤ d) × (d ≤ 16) = o.0.1.0.1.0.0 in
    (and_both (leb 1 c) (leb c 16) (le-leb 1 c x.0) (le-leb c 16 x.1), and_both (leb 1 d) (leb d 16) (le-leb 1 d y.0) (le-leb d 16 y.1), x.1, y.1)
counts_pass (suc (suc (suc n))) c d h o e f = absurd (omega arith)

-- each item of an allowed line is allowed
each_item : {A : Type 0} (d : A) (F : ℕ → Format A) (P : A → Type 0) → ((n : ℕ) (a : A) → (F (end_of n)).Ok a → P a) → (n : ℕ) (l : List A) → (seqs d (items F n)).Ok l → Each P l
each_item d F P f zero l o = subst⁻¹ (Each P) o tt
each_item d F P f (suc n) l o = subst (Each P) o.1 (f n (uncons d l).0 o.0.0, each_item d F P f n (uncons d l).1 o.0.1)

each_line : {A : Type 0} (name : List ℕ) (d : A) (F : ℕ → Format A) (P : A → Type 0) → ((n : ℕ) (a : A) → (F (end_of n)).Ok a → P a) → (n : ℕ) (l : List A) → (line name d F n).Ok l → Each P l
each_line name d F P f zero l o = subst⁻¹ (Each P) o tt
each_line name d F P f (suc n) l o = each_item d F P f (suc n) l o.0.1

ok_finite : (end n : ℕ) → (half end).Ok n → Finite n
ok_finite end n o = record { bits = half_bound end n o; exponent = λ e. clash e }
  where
    small : n < 65536
    small = half_bound end n o

    A : T (is_hex (hex_byte (n / 4096))) × (hex_value (hex_byte (n / 4096)) ≡ n / 4096)
    A = byte_hex (n / 4096) (omega (arith, small))

    B : T (is_hex (hex_byte (n / 256 % 16))) × (hex_value (hex_byte (n / 256 % 16)) ≡ n / 256 % 16)
    B = byte_hex (n / 256 % 16) (omega arith)

    not_both : (x : Bool) → not x ≡ true → x ≡ true → ⊥
    not_both true e k = let z : ◌≡◌ {A = ℕ} 0 1 = cc in omega arith
    not_both false e k = let z : ◌≡◌ {A = ℕ} 0 1 = cc in omega arith

    clash : n / 1024 % 32 ≡ 31 → ⊥
    clash e =
        let a : ℕ = hex_value (hex_byte (n / 4096)) in
        let b : ℕ = hex_value (hex_byte (n / 256 % 16)) in
        let t : (is_hex (hex_byte (n / 256 % 16)) ≡ true) × (not (eqb (a % 8) 7 && leb 12 b) ≡ true) =
        and_true (is_hex (hex_byte (n / 256 % 16))) (not (eqb (a % 8) 7 && leb 12 b)) (is_true (may_follow a (hex_byte (n / 256 % 16))) o.0.0.0.1.0) in
        let p : a % 8 ≡ 7 = omega (arith, A.1, e, small) in
        let q : 12 ≤ b = omega (arith, B.1, e, small) in
        not_both (eqb (a % 8) 7 && leb 12 b) t.1 (rw (eq-eqb (a % 8) 7 p, le-leb 12 b q))

half_fine : (end v : ℕ) → (half end).Ok v → (barred v ≡ false) × (v < 65536)
half_fine end v o = let x : Finite v = ok_finite end v o in (ne_eqb (v / 1024 % 32) 31 x.exponent, x.bits)

all_fine_lem : (l : List ℕ) → Each (λ v. (barred v ≡ false) × (v < 65536)) l → (all_fine l ≡ true) × Each (λ v. v < 65536) l
all_fine_lem [] e = (refl, tt)
all_fine_lem (v ∷ l) e = let x : (all_fine l ≡ true) × Each (λ v. v < 65536) l = all_fine_lem l e.1 in (rw e.0.0 x.0, (e.0.1, x.1))

sample_fits : (end : ℕ) (v : ℤ) → (signed end).Ok v → fits32 v
sample_fits end (pos zero) o = omega arith
sample_fits end (pos (suc n)) o = let x : (1 ≤ suc n) × (suc n ≤ 2147483647) = (rw (ne_eqb (suc n) 0 (λ e. omega arith)) at o).0 in omega (arith, x.1)
sample_fits end (negsuc n) o = let x : (1 ≤ suc n) × (suc n ≤ 2147483648) = o.0.1.0 in omega (arith, x.1)

pub each_append : (P : ℕ → Type 0) (l m : List ℕ) → Each P l → Each P m → Each P (l ++ m)
each_append P [] m e f = f
each_append P (a ∷ l) m e f = (e.0, each_append P l m e.1 f)

module _ (k : ℕ) (row : List ℕ) (part : List ℤ) (o : (row_format k).Ok (row, part)) where
  x : Ready k row part
  x = ready k row part o

  halves : (all_fine (take (number_count (get_or row 0 0) (counts_of row)) (drop 3 row)) ≡ true) × Each (λ v. v < 65536) (take (number_count (get_or row 0 0) (counts_of row)) (drop 3 row))
  unfolding row_format entry
  halves = all_fine_lem (take (number_count (get_or row 0 0) (counts_of row)) (drop 3 row)) (each_line (bytes "numbers=") 0 half (λ v. (barred v ≡ false) × (v < 65536)) (λ n v. half_fine (end_of n) v) (number_count (get_or row 0 0) (counts_of row)) (take (number_count (get_or row 0 0) (counts_of row)) (drop 3 row)) o.0.1.1.0)

  counts : (count_ok (leb 1 (lists (get_or row 0 0))) (get_or row 1 0) ≡ true) × (count_ok (leb 2 (lists (get_or row 0 0))) (get_or row 2 0) ≡ true) × (get_or row 1 0 ≤ 16) × (get_or row 2 0 ≤ 16)
  unfolding row_format entry
  counts = counts_pass (lists (get_or row 0 0)) (get_or row 1 0) (get_or row 2 0) x.two o.0.1.0 x.first x.second

  row_is : (row_of (entry_of (row, part))).0 ≡ row
  unfolding row_format
  row_is = ap (λ (r : Row). r.0) o.1

  pub samples_fit_lem : Each fits32 part
  unfolding row_format entry
  samples_fit_lem = each_line (bytes "samples=") (pos 0) signed fits32 (λ n v. sample_fits (end_of n) v) (sample_count k (get_or row 0 0)) part o.0.1.1.1

  pub row_bits : Each (λ v. v < 65536) row
  row_bits =
      let c : get_or (counts_of row) 0 0 < 65536 = omega (arith, x.first, counts.2) in
      let d : get_or (counts_of row) 1 0 < 65536 = omega (arith, x.second, counts.3) in
      let m : get_or row 0 0 < 65536 = omega (arith, x.mode) in
      subst (Each (λ v. v < 65536)) row_is (each_append (λ v. v < 65536) (slots (entry_of (row, part))) (replicate (128 - length (slots (entry_of (row, part)))) 0) (m, (c, (d, halves.1))) (small_same (128 - length (slots (entry_of (row, part)))) 0 (omega arith)))

  rest : drop (number_count (get_or row 0 0) (counts_of row)) (drop 3 row) ≡ replicate (128 - length (slots (entry_of (row, part)))) 0
  rest =
      let n : ℕ = number_count (get_or row 0 0) (counts_of row) in
      sym (ap (λ (l : List ℕ). drop n (drop 3 l)) row_is) ∙ drop_at (take n (drop 3 row)) (replicate (128 - length (slots (entry_of (row, part)))) 0) n x.numbers

  pub row_passes : entry_row k row ≡ true
  unfolding entry_row row_format entry
  row_passes =
      let N : ℕ = fixed (get_or row 0 0) + 3 * get_or row 1 0 + 3 * get_or row 2 0 in
      let e : N ≡ number_count (get_or row 0 0) (counts_of row) = omega (arith, x.first, x.second) in
      and_both _ _ (eq-eqb (length row) 128 x.long)
      (and_both _ _ (lt-ltb (get_or row 0 0) 8 x.mode)
      (and_both _ _ (mode_allowed k (get_or row 0 0) o.0.0)
      (and_both _ _ counts.0
      (and_both _ _ counts.1
      (and_both _ _ (ap (λ (i : ℕ). all_fine (take i (drop 3 row))) e ∙ halves.0)
      (ap (λ (i : ℕ). all_zero (drop i (drop 3 row))) e ∙ ap all_zero rest ∙ of_zeros (128 - length (slots (entry_of (row, part))))))))))
