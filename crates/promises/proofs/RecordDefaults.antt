-- The rows of a set whose slot 126 is 1 and which the ROW check lets pass: all 0 but that slot. Assumes nothing.
use mathlib.Core.Path.{◌≡◌, refl, sym, ap, ◌∙◌, subst}
use mathlib.Core.List.{List, [], ◌∷◌, ◌++◌}
use mathlib.Core.Bool.{Bool, true, false, ◌&&◌, ◌||◌}
use Prim.Native.Nat.{ℕ, zero, suc, ◌+◌, ◌*◌, ◌-◌, ◌/◌, ◌%◌, ◌≤◌, ◌<◌}
use native.Mathlib.Omega.{arith}
use native.Mathlib.Decide.{ℕ_discrete, dec_lt}
use borrow.Author.Tests.{ne_eqb, eqb-true, lt-ltb, le-ltb}
use lib.IntN.{ℤ}
use lib.ListN.{length, get_or, take, drop, replicate, length-set, length-replicate, get_or-replicate}
use lib.Seq.{ext_get_or, get_or-take, get_or-drop, get_or-set_same, get_or-set_other}
use lib.Dec.{eqb, ltb}
use Rattle.transform.specs.First.{before}
use native.Mathlib.Nat.{le_of_eq}
use Rattle.transform.proofs.FirstLaws.{before_each}
use Rattle.params.specs.Row.{lists}
use Rattle.params.specs.Allowed.{entry_row, flag_row, row_allowed, row_at, mode_at}
use Rattle.transform.specs.Zeros.{all_zero}
use Rattle.params.specs.Header.{all_default}
use Rattle.params.proofs.AllowedLaws.{and_true}
use Rattle.params.proofs.FaultLaws.{flag_mode, fault_flag, fault_rows}
use Rattle.record.specs.Record.{number_count, sample_count}
use Rattle.record.specs.Rows.{Row, row_format}
use Rattle.record.specs.Description.{Each}
use Rattle.record.specs.Stored.{Checked}
use Rattle.record.proofs.OkLaws.{entry_ok}
use Rattle.record.proofs.SetStores.{row_first, lent_rows}
use Rattle.promises.proofs.RowRule.{small_row, entry_flag}

-- a row of mode 0 is all 0
abbrev made : List ℕ → ℕ → List ℕ
made row m =
    (m ∷ get_or (take (lists m) (get_or row 1 0 ∷ get_or row 2 0 ∷ [])) 0 0 ∷ get_or (take (lists m) (get_or row 1 0 ∷ get_or row 2 0 ∷ [])) 1 0
    ∷ take (number_count m (take (lists m) (get_or row 1 0 ∷ get_or row 2 0 ∷ []))) (drop 3 row))
    ++ replicate (128 - suc (suc (suc (length (take (number_count m (take (lists m) (get_or row 1 0 ∷ get_or row 2 0 ∷ []))) (drop 3 row)))))) 0

no_samples : (k m : ℕ) → m ≡ 0 → 0 ≡ sample_count k m
no_samples k m e = sym (ap (sample_count k) e)

row_ok : (k : ℕ) (row : List ℕ) → entry_row k row ≡ true → Each (λ v. v < 65536) row → get_or row 0 0 ≡ 0 → (row_format k).Ok (row, [])
row_ok k row e b m = entry_ok k row [] e b (no_samples k (get_or row 0 0) m) tt

pub zero_row : (k : ℕ) (row : List ℕ) → entry_row k row ≡ true → Each (λ v. v < 65536) row → get_or row 0 0 ≡ 0 → row ≡ replicate 128 0
unfolding row_format
zero_row k row e b m = sym (ap (λ (r : Row). r.0) (row_ok k row e b m).1) ∙ ap (made row) m

zero_at : (l : List ℕ) → all_zero l ≡ true → (i : ℕ) → get_or l i 0 ≡ 0
zero_at [] e zero = refl
zero_at [] e (suc i) = refl
zero_at (v ∷ l) e zero = eqb-true v 0 (and_true (eqb v 0) (all_zero l) e).0
zero_at (v ∷ l) e (suc i) = zero_at l (and_true (eqb v 0) (all_zero l) e).1 i

module _ (rows : List ℕ) (samples : List ℤ) (a : Checked rows samples) (e : get_or rows 126 0 ≡ 1) where
  zeros : 17 ≤ before (λ kind. eqb (mode_at rows kind) 0) 17
  zeros = go (dec_lt (before (λ kind. eqb (mode_at rows kind) 0) 17) 17)
    where
      go : Dec (before (λ kind. eqb (mode_at rows kind) 0) 17 < 17) → 17 ≤ before (λ kind. eqb (mode_at rows kind) 0) 17
      go (yes l) = absurd (omega (arith, fault_flag rows (flag_mode rows true e (sym (lt-ltb (before (λ kind. eqb (mode_at rows kind) 0) 17) 17 l))), a.row))
      go (no l) = omega arith

  pub mode_zero : (k : ℕ) → k < 17 → mode_at rows k ≡ 0
  mode_zero k h = eqb-true (mode_at rows k) 0 (before_each (λ kind. eqb (mode_at rows kind) 0) 17 zeros k h)

  passes : (k : ℕ) → k < 17 → row_allowed k (row_at rows k) ≡ true
  passes k h = before_each (λ i. row_allowed i (row_at rows i)) 17 (le_of_eq (sym a.row ∙ fault_rows rows (flag_mode rows false e (sym (le-ltb (before (λ kind. eqb (mode_at rows kind) 0) 17) 17 zeros))))) k h

  first_zero : (k : ℕ) → k < 17 → get_or (row_at rows k) 0 0 ≡ 0
  first_zero k h = row_first rows k 0 (omega arith) ∙ ap (λ (i : ℕ). get_or rows i 0) (native.Mathlib.Nat.add-zero (k * 128)) ∙ mode_zero k h

  or_false : (b : Bool) → (b || false) ≡ true → b ≡ true
  or_false true q = refl
  or_false false q = q

  later_row : (k : ℕ) → 0 < k → k < 17 → row_at rows k ≡ replicate 128 0
  unfolding row_allowed
  later_row k p h =
      let x = and_true (ltb k 17) (entry_row k (row_at rows k) || (eqb k 0 && flag_row (row_at rows k))) (passes k h) in
      let y : (entry_row k (row_at rows k) || false) ≡ true = rw (ne_eqb k 0 (λ q. omega arith)) at x.1 in
      zero_row k (row_at rows k) (or_false (entry_row k (row_at rows k)) y) (small_row rows k a.bits) (first_zero k h)

  first_flag : flag_row (row_at rows 0) ≡ true
  unfolding row_allowed
  first_flag = go (entry_row 0 (row_at rows 0)) refl
    where
      go : (b : Bool) → entry_row 0 (row_at rows 0) ≡ b → flag_row (row_at rows 0) ≡ true
      go true q = absurd (omega (arith, entry_flag 0 (row_at rows 0) q, row_first rows 0 126 (omega arith), e))
      go false q = rw q at (and_true (ltb 0 17) (entry_row 0 (row_at rows 0) || (eqb 0 0 && flag_row (row_at rows 0))) (passes 0 (omega arith))).1

  first_row : (j : ℕ) → j < 128 → (j ≡ 126 → ⊥) → get_or (row_at rows 0) j 0 ≡ 0
  unfolding flag_row
  first_row j h n =
      let x = and_true (eqb (length (row_at rows 0)) 128) _ first_flag in
      let y = and_true (eqb (get_or (row_at rows 0) 126 0) 1) _ x.1 in
      let z = and_true (all_zero (take 126 (row_at rows 0))) (all_zero (drop 127 (row_at rows 0))) y.1 in
      go z.0 z.1 (dec_lt j 126)
    where
      go : all_zero (take 126 (row_at rows 0)) ≡ true → all_zero (drop 127 (row_at rows 0)) ≡ true → Dec (j < 126) → get_or (row_at rows 0) j 0 ≡ 0
      go z w (yes l) = sym (get_or-take 126 (row_at rows 0) j 0 l) ∙ zero_at (take 126 (row_at rows 0)) z j
      go z w (no l) =
          let q : 127 + 0 ≡ j = omega arith in
          ap (λ (i : ℕ). get_or (row_at rows 0) i 0) (sym q) ∙ sym (get_or-drop 127 (row_at rows 0) 0 0) ∙ zero_at (drop 127 (row_at rows 0)) w 0

  other : (i : ℕ) → i < 2176 → (i ≡ 126 → ⊥) → get_or rows i 0 ≡ 0
  other i h n =
      let k : ℕ = i / 128 in
      let j : ℕ = i % 128 in
      let q : k * 128 + j ≡ i = omega arith in
      let l : j < 128 = omega arith in
      let m : k < 17 = omega arith in
      ap (λ (x : ℕ). get_or rows x 0) (sym q) ∙ sym (row_first rows k j l) ∙ go k j l m q (ℕ_discrete k 0)
    where
      go : (k j : ℕ) → j < 128 → k < 17 → k * 128 + j ≡ i → Dec (k ≡ 0) → get_or (row_at rows k) j 0 ≡ 0
      go k j l m q (yes z) = ap (λ (x : ℕ). get_or (row_at rows x) j 0) z ∙ first_row j l (λ w. n (let y : i ≡ 126 = omega (arith, q, z, w) in y))
      go k j l m q (no z) = ap (λ (x : List ℕ). get_or x j 0) (later_row k (omega arith) m) ∙ get_or-replicate 128 j 0 0 l

  pub rows_default : rows ≡ all_default
  rows_default =
      ext_get_or 0 rows all_default (lent_rows rows samples a.lent ∙ sym (length-set {A = ℕ} (replicate 2176 0) 126 1 ∙ length-replicate {A = ℕ} 2176 0))
      (λ i h. go i (subst (λ (n : ℕ). i < n) (lent_rows rows samples a.lent) h) (ℕ_discrete i 126))
    where
      go : (i : ℕ) → i < 2176 → Dec (i ≡ 126) → get_or rows i 0 ≡ get_or all_default i 0
      go i h (yes q) = ap (λ (x : ℕ). get_or rows x 0) q ∙ e ∙ sym (ap (λ (x : ℕ). get_or all_default x 0) q ∙ get_or-set_same {A = ℕ} (replicate 2176 0) 126 1 0 (omega (arith, length-replicate {A = ℕ} 2176 0)))
      go i h (no q) = other i h q ∙ sym (get_or-set_other {A = ℕ} (replicate 2176 0) 126 i 1 0 q ∙ get_or-replicate {A = ℕ} 2176 i 0 0 h)
