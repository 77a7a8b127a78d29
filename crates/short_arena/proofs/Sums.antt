-- A sum over kinds none of which is there twice is a sum over all 17, of those that are there. Assumes nothing.
use mathlib.Core.Path.{◌≡◌, refl, sym, ap, ◌∙◌, subst}
use mathlib.Core.Bool.{Bool, true, false, cond, not, ◌||◌}
use mathlib.Core.Logic.{⊎_elim}
use mathlib.Core.List.{List, [], ◌∷◌}
use Prim.Native.Nat.{ℕ, zero, suc, ◌+◌, ◌≤◌, ◌<◌}
use native.Mathlib.Nat.{le_of_suc-le-suc, not-suc-le-zero, eq-or-lt_of_le, add-zero}
use native.Mathlib.Omega.{arith}
use borrow.Author.Tests.{eq-eqb, ne_eqb, ltb-true, not-true}
use lib.Dec.{eqb, ltb}
use lib.ListN.{length}
use Rattle.short_arena.specs.Held.{is_held, single, sum_over}
use Rattle.short_arena.specs.Calls.{sum_below}
use Rattle.transform.proofs.Chain.{left, right}

pub same_below : (f g : ℕ → ℕ) (n : ℕ) → ((k : ℕ) → k < n → f k ≡ g k) → sum_below f n ≡ sum_below g n
unfolding sum_below
same_below f g zero h = refl
same_below f g (suc n) h = rw (same_below f g n (λ k l. h k (omega arith)), h n (omega arith))

-- a term more at one place
with_term : (f g : ℕ → ℕ) (j a n : ℕ) → j < n → f j ≡ a + g j → ((k : ℕ) → (j ≡ k → ⊥) → f k ≡ g k) → sum_below f n ≡ a + sum_below g n
unfolding sum_below
with_term f g j a zero l e h = absurd (not-suc-le-zero l)
with_term f g j a (suc n) l e h = ⊎_elim last (λ i. early i (with_term f g j a n i e h)) (eq-or-lt_of_le (le_of_suc-le-suc l))
  where
    last : j ≡ n → sum_below f n + f n ≡ a + (sum_below g n + g n)
    last i =
        let p : sum_below f n ≡ sum_below g n = same_below f g n (λ k m. h k (λ q. omega arith)) in
        let q : f n ≡ a + g n = subst (λ (m : ℕ). f m ≡ a + g m) i e in
        omega arith

    early : j < n → sum_below f n ≡ a + sum_below g n → sum_below f n + f n ≡ a + (sum_below g n + g n)
    early i p = let q : f n ≡ g n = h n (λ r. omega arith) in omega arith

nothing : (n : ℕ) → sum_below (λ k. 0) n ≡ 0
unfolding sum_below
nothing zero = refl
nothing (suc n) = let e = nothing n in omega arith

-- the sum over those that are there
pub sum_is : (f : ℕ → ℕ) (ks : List ℕ) → single ks ≡ true → sum_over f ks ≡ sum_below (λ k. cond (is_held ks k) (f k) 0) 17
unfolding sum_over single is_held
sum_is f [] e = sym (nothing 17)
sum_is f (j ∷ ks) e =
    let e1 = right (ltb j 17) _ e in
    let away : is_held ks j ≡ false = not-true (is_held ks j) (left (not (is_held ks j)) (single ks) e1) in
    ap (λ (m : ℕ). f j + m) (sum_is f ks (right (not (is_held ks j)) (single ks) e1))
    ∙ sym (with_term (λ k. cond (eqb j k || is_held ks k) (f k) 0) (λ k. cond (is_held ks k) (f k) 0) j (f j) 17 (ltb-true j 17 (left (ltb j 17) _ e)) (here away) other)
  where
    here : is_held ks j ≡ false → cond (eqb j j || is_held ks j) (f j) 0 ≡ f j + cond (is_held ks j) (f j) 0
    here a = rw (eq-eqb j j refl, a) (sym (add-zero (f j)))

    other : (k : ℕ) → (j ≡ k → ⊥) → cond (eqb j k || is_held ks k) (f k) 0 ≡ cond (is_held ks k) (f k) 0
    other k n = rw (ne_eqb j k n)

-- ---- of 17 kinds one that is not there leaves at most 16
at_most : (b : ℕ → Bool) (n : ℕ) → sum_below (λ k. cond (b k) 1 0) n ≤ n
unfolding sum_below
at_most b zero = omega arith
at_most b (suc n) = go (b n) (at_most b n)
  where
    go : (t : Bool) → sum_below (λ k. cond (b k) 1 0) n ≤ n → sum_below (λ k. cond (b k) 1 0) n + cond t 1 0 ≤ suc n
    go true h = omega arith
    go false h = omega arith

one_out : (b : ℕ → Bool) (n k : ℕ) → k < n → b k ≡ false → sum_below (λ i. cond (b i) 1 0) n < n
unfolding sum_below
one_out b zero k h e = absurd (not-suc-le-zero h)
one_out b (suc n) k h e = ⊎_elim last (λ l. early (b n) (one_out b n k l e)) (eq-or-lt_of_le (le_of_suc-le-suc h))
  where
    last : k ≡ n → sum_below (λ i. cond (b i) 1 0) n + cond (b n) 1 0 < suc n
    last i =
        let z : ◌≡◌ {A = ℕ} (cond (b n) 1 0) 0 = ap (λ (t : Bool). cond t 1 0) (sym (ap b i) ∙ e) in
        let m = at_most b n in
        omega arith

    early : (t : Bool) → sum_below (λ i. cond (b i) 1 0) n < n → sum_below (λ i. cond (b i) 1 0) n + cond t 1 0 < suc n
    early true l = omega arith
    early false l = omega arith

count_is : (ks : List ℕ) → sum_over (λ k. 1) ks ≡ length ks
unfolding sum_over
count_is [] = refl
count_is (j ∷ ks) = let e = count_is ks in omega arith

pub room_left : (ks : List ℕ) (k : ℕ) → single ks ≡ true → k < 17 → is_held ks k ≡ false → length ks < 17
room_left ks k e h a =
    let c = count_is ks in
    let s = sum_is (λ i. 1) ks e in
    let l = one_out (is_held ks) 17 k h a in
    omega arith

pub few : (ks : List ℕ) → single ks ≡ true → length ks ≤ 17
few ks e =
    let c = count_is ks in
    let s = sum_is (λ i. 1) ks e in
    let l = at_most (is_held ks) 17 in
    omega arith
