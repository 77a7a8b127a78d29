-- Stores beside a place, and the kinds' parts of an arena of samples. Assumes nothing.
use mathlib.Core.Path.{◌≡◌, refl, sym, ap, ◌∙◌, subst}
use mathlib.Core.List.{List, [], ◌∷◌, ◌++◌}
use Prim.Native.Nat.{ℕ, zero, suc, ◌+◌, ◌≤◌, ◌<◌}
use native.Mathlib.Omega.{arith}
use native.Mathlib.Decide.{dec_lt}
use native.Mathlib.Nat.{eq-or-lt_of_le, le_of_suc-le-suc, not-suc-le-zero}
use mathlib.Core.Logic.{⊎_elim}
use lib.IntN.{ℤ, pos}
use lib.ListN.{length, get_or, set, take, drop, length-drop}
use lib.Seq.{sets, sets-eq, length-sets, ext_get_or, get_or-take, get_or-drop, get_or-set_other, length-take-le, take_at, drop_at}
use Rattle.transform.specs.Kinds.{places_of, start_of, part}
use Rattle.transform.proofs.Laws.{end_le}
use Rattle.record.specs.Description.{store_parts}

-- ---- stores beside a place

module _ {A : Type 0} (d : A) where
  pub store_below : (l : List A) (i : ℕ) (vs : List A) (x : ℕ) → x < i → get_or (sets l i vs) x d ≡ get_or l x d
  store_below l i [] x h = refl
  store_below l i (v ∷ vs) x h = store_below (set l i v) (suc i) vs x (omega arith) ∙ get_or-set_other l i x v d (λ e. omega arith)

  pub store_above : (l : List A) (i : ℕ) (vs : List A) (x : ℕ) → i + length vs ≤ x → get_or (sets l i vs) x d ≡ get_or l x d
  store_above l i [] x h = refl
  store_above l i (v ∷ vs) x h =
      let q : i + suc (length vs) ≤ x = h in
      store_above (set l i v) (suc i) vs x (omega arith) ∙ get_or-set_other l i x v d (λ e. omega arith)

  -- a part that a store does not touch stays
  pub part_stays : (l : List A) (i : ℕ) (vs : List A) (a n : ℕ) → a + n ≤ length l → ((x : ℕ) → a ≤ x → x < a + n → get_or (sets l i vs) x d ≡ get_or l x d) → take n (drop a (sets l i vs)) ≡ take n (drop a l)
  part_stays l i vs a n h f =
      let p : length (take n (drop a (sets l i vs))) ≡ n = length-take-le n (drop a (sets l i vs)) (omega (arith, length-drop a (sets l i vs), length-sets l i vs)) in
      let q : length (take n (drop a l)) ≡ n = length-take-le n (drop a l) (omega (arith, length-drop a l)) in
      ext_get_or d (take n (drop a (sets l i vs))) (take n (drop a l)) (p ∙ sym q)
      (λ x k. (let m : x < n = subst (λ (t : ℕ). x < t) p k in
      get_or-take n (drop a (sets l i vs)) x d m ∙ get_or-drop a (sets l i vs) x d ∙ f (a + x) (omega arith) (omega arith) ∙ sym (get_or-take n (drop a l) x d m ∙ get_or-drop a l x d)))

  -- a part that is stored whole is what was stored
  pub part_stored : (l : List A) (i : ℕ) (vs : List A) → i + length vs ≤ length l → take (length vs) (drop i (sets l i vs)) ≡ vs
  part_stored l i vs h =
      let e : sets l i vs ≡ take i l ++ (vs ++ drop (i + length vs) l) = sets-eq vs l i h ∙ mathlib.Core.List.append_assoc (take i l) vs (drop (i + length vs) l) in
      ap (λ (t : List A). take (length vs) (drop i t)) e
      ∙ ap (take (length vs)) (drop_at (take i l) (vs ++ drop (i + length vs) l) i (length-take-le i l (omega arith)))
      ∙ take_at vs (drop (i + length vs) l) (length vs) refl

-- ---- the kinds' parts lie one behind the other

starts : (j k : ℕ) → j < k → start_of j + places_of j ≤ start_of k
unfolding start_of
starts j zero h = absurd (not-suc-le-zero h)
starts j (suc k) h = ⊎_elim (λ e. last e) (λ l. later l (starts j k l)) (eq-or-lt_of_le (le_of_suc-le-suc h))
  where
    last : j ≡ k → start_of j + places_of j ≤ start_of k + places_of k
    last e = let q : start_of j + places_of j ≡ start_of k + places_of k = ap (λ (i : ℕ). start_of i + places_of i) e in omega (arith, q)

    later : j < k → start_of j + places_of j ≤ start_of k → start_of j + places_of j ≤ start_of k + places_of k
    later l g = omega (arith, g)

module _ (arena : List ℤ) (long : length arena ≡ 394752) (j : ℕ) (v : List ℤ) (few : length v ≤ places_of j) where
  pub other_part : (k : ℕ) → (k ≡ j → ⊥) → part k (sets arena (start_of j) v) ≡ part k arena
  other_part k h =
      part_stays (pos 0) arena (start_of j) v (start_of k) (places_of k) (omega (arith, end_le k, long))
      (λ x a b. go x a b (dec_lt k j))
    where
      go : (x : ℕ) → start_of k ≤ x → x < start_of k + places_of k → Dec (k < j) → get_or (sets arena (start_of j) v) x (pos 0) ≡ get_or arena x (pos 0)
      go x a b (yes l) = store_below (pos 0) arena (start_of j) v x (omega (arith, starts k j l))
      go x a b (no l) = store_above (pos 0) arena (start_of j) v x (omega (arith, starts j k (omega arith)))

pub own_part : (arena : List ℤ) → length arena ≡ 394752 → (k : ℕ) (v : List ℤ) → length v ≡ places_of k → part k (sets arena (start_of k) v) ≡ v
own_part arena long k v e =
    ap (λ (n : ℕ). take n (drop (start_of k) (sets arena (start_of k) v))) (sym e) ∙ part_stored (pos 0) arena (start_of k) v (omega (arith, e, end_le k, long))

-- storing keeps the length
pub store_long : (j : ℕ) (vs : List (List ℤ)) (arena : List ℤ) → length (store_parts j vs arena) ≡ length arena
store_long j [] arena = refl
store_long j (v ∷ vs) arena = store_long (j + 1) vs (sets arena (start_of j) v) ∙ length-sets arena (start_of j) v
