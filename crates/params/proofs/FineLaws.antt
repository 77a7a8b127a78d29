-- A row that passes the ROW check holds no number of exponent 31: none of its slots from 3 on does. Assumes nothing.
use mathlib.Core.Path.{◌≡◌, refl, sym, ap, ◌∙◌}
use mathlib.Core.Bool.{Bool, true, false, not, ◌&&◌, ◌||◌, true≢false}
use mathlib.Core.List.{List, [], ◌∷◌}
use Prim.Native.Nat.{ℕ, zero, suc, ◌+◌, ◌-◌, ◌*◌, ◌<◌}
use native.Mathlib.Decide.{dec_lt}
use native.Mathlib.Omega.{arith}
use borrow.Author.Tests.{eqb-true, not-true}
use lib.Dec.{leb, ltb, eqb}
use lib.ListN.{length, get_or, take, drop}
use lib.Seq.{get_or-take, get_or-drop}
use Rattle.bitstream.specs.Half.{barred}
use Rattle.params.specs.Row.{fixed, lists, allowed}
use Rattle.params.specs.Allowed.{all_fine, count_ok, entry_row, flag_row, row_allowed}
use Rattle.transform.specs.Zeros.{all_zero}
use Rattle.params.proofs.AllowedLaws.{and_true}

zero_at : (l : List ℕ) (i : ℕ) → all_zero l ≡ true → barred (get_or l i 0) ≡ false
zero_at [] i e = refl
zero_at (v ∷ l) zero e = ap barred (eqb-true v 0 (and_true (eqb v 0) (all_zero l) e).0)
zero_at (v ∷ l) (suc i) e = zero_at l i (and_true (eqb v 0) (all_zero l) e).1

split_at : (n : ℕ) (l : List ℕ) (i : ℕ) → all_fine (take n l) ≡ true → all_zero (drop n l) ≡ true → barred (get_or l i 0) ≡ false
split_at n [] i f z = refl
split_at zero (v ∷ l) i f z = zero_at (v ∷ l) i z
split_at (suc n) (v ∷ l) zero f z = not-true (barred v) (and_true (not (barred v)) (all_fine (take n l)) f).0
split_at (suc n) (v ∷ l) (suc i) f z = split_at n l i (and_true (not (barred v)) (all_fine (take n l)) f).1 z

entry_fine : (k : ℕ) (row : List ℕ) → entry_row k row ≡ true → (i : ℕ) → barred (get_or row (3 + i) 0) ≡ false
unfolding entry_row
entry_fine k row e i =
    let n = fixed (get_or row 0 0) + 3 * get_or row 1 0 + 3 * get_or row 2 0 in
    let e1 = and_true (eqb (length row) 128) _ e in
    let e2 = and_true (ltb (get_or row 0 0) 8) _ e1.1 in
    let e3 = and_true (allowed k (get_or row 0 0)) _ e2.1 in
    let e4 = and_true (count_ok (leb 1 (lists (get_or row 0 0))) (get_or row 1 0)) _ e3.1 in
    let e5 = and_true (count_ok (leb 2 (lists (get_or row 0 0))) (get_or row 2 0)) _ e4.1 in
    let e6 = and_true (all_fine (take n (drop 3 row))) (all_zero (drop n (drop 3 row))) e5.1 in
    ap barred (sym (get_or-drop 3 row i 0)) ∙ split_at n (drop 3 row) i e6.0 e6.1

flag_fine : (row : List ℕ) → flag_row row ≡ true → (i : ℕ) → barred (get_or row i 0) ≡ false
unfolding flag_row
flag_fine row e i =
    let e1 = and_true (eqb (length row) 128) _ e in
    let e2 = and_true (eqb (get_or row 126 0) 1) _ e1.1 in
    let e3 = and_true (all_zero (take 126 row)) (all_zero (drop 127 row)) e2.1 in
    go e2.0 e3.0 e3.1 (dec_lt i 126) (dec_lt i 127)
  where
    go : eqb (get_or row 126 0) 1 ≡ true → all_zero (take 126 row) ≡ true → all_zero (drop 127 row) ≡ true → Dec (i < 126) → Dec (i < 127) → barred (get_or row i 0) ≡ false
    go s x y (yes h) k = ap barred (sym (get_or-take 126 row i 0 h)) ∙ zero_at (take 126 row) i x
    go s x y (no h) (yes k) = let z : i ≡ 126 = omega arith in ap (λ (j : ℕ). barred (get_or row j 0)) z ∙ ap barred (eqb-true (get_or row 126 0) 1 s)
    go s x y (no h) (no k) =
        let z : i ≡ 127 + (i - 127) = omega arith in
        ap (λ (j : ℕ). barred (get_or row j 0)) z ∙ ap barred (sym (get_or-drop 127 row (i - 127) 0)) ∙ zero_at (drop 127 row) (i - 127) y

pub row_fine : (k : ℕ) (row : List ℕ) → row_allowed k row ≡ true → (i : ℕ) → barred (get_or row (3 + i) 0) ≡ false
unfolding row_allowed
row_fine k row e i = go (entry_row k row) (eqb k 0) refl (and_true (ltb k 17) (entry_row k row || (eqb k 0 && flag_row row)) e).1
  where
    go : (a b : Bool) → entry_row k row ≡ a → (a || (b && flag_row row)) ≡ true → barred (get_or row (3 + i) 0) ≡ false
    go true b p t = entry_fine k row p i
    go false true p t = flag_fine row t (3 + i)
    go false false p t = absurd (true≢false (sym t))
