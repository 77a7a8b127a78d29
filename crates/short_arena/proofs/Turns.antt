-- The kinds held, as the library's searches and sums have them, and from a place on, as a loop over them knows them. Assumes nothing.
use Rattle.std.proofs.Common.{◌≡◌, ℕ, suc, ◌+◌, ◌-◌, ◌≤◌, ◌<◌, Bool, true, false, cond, not, ◌&&◌, ◌||◌, eqb, ltb, Some, None, Option, List, [], ◌∷◌, length, get_or, take, drop, sym, refl, ap, ◌∙◌, arith, lt-ltb, le-ltb}
use mathlib.Core.Bool.{and-false}
use mathlib.Core.Logic.{⊎_elim}
use Rattle.std.specs.List.{list_any, list_all, sum_by, position, position_or_len}
use Rattle.std.proofs.lemmas.List.{drop_more, drop_all, take_rest}
use Rattle.std.proofs.lemmas.List.Sums.{sum_by-cons}
use Rattle.transform.specs.Kinds.{places_of}
use Rattle.transform.specs.Zeros.{all_zero}
use Rattle.transform.proofs.Laws.{side}
use Rattle.short_arena.specs.Held.{is_held, single, sum_over, places_in, start_in}

-- ---- the library's words
pub held_any : (ks : List ℕ) (k : ℕ) → list_any (λ j. eqb j k) ks ≡ is_held ks k
unfolding is_held
held_any [] k = refl
held_any (j ∷ ks) k = ap (λ (b : Bool). eqb j k || b) (held_any ks k)

pub zero_all : (l : List ℕ) → list_all (λ v. eqb v 0) l ≡ all_zero l
zero_all [] = refl
zero_all (v ∷ l) = ap (λ (b : Bool). eqb v 0 && b) (zero_all l)

pub sum_over_is : (f : ℕ → ℕ) (ks : List ℕ) → sum_by f ks ≡ sum_over f ks
unfolding sum_over
sum_over_is f [] = refl
sum_over_is f (j ∷ ks) = sum_by-cons f j ks ∙ ap (λ (n : ℕ). f j + n) (sum_over_is f ks)

-- the first place at which a kind stands
abbrev first : List ℕ → ℕ → ℕ
first ks k = position_or_len (λ j. eqb j k) ks

suc_lt : (a b : ℕ) → ltb a b ≡ ltb (1 + a) (suc b)
suc_lt a b = ⊎_elim (λ h. lt-ltb a b h ∙ sym (lt-ltb (1 + a) (suc b) (omega arith))) (λ h. le-ltb a b h ∙ sym (le-ltb (1 + a) (suc b) (omega arith))) (side a b)

held_first : (ks : List ℕ) (k : ℕ) → is_held ks k ≡ ltb (first ks k) (length ks)
unfolding is_held
held_first [] k = refl
held_first (j ∷ ks) k = go (eqb j k) (held_first ks k)
  where
    go : (b : Bool) → is_held ks k ≡ ltb (first ks k) (length ks) → (b || is_held ks k) ≡ ltb (cond (not b) (1 + first ks k) 0) (suc (length ks))
    go true e = sym (lt-ltb 0 (suc (length ks)) (omega arith))
    go false e = e ∙ suc_lt (first ks k) (length ks)

start_first : (ks : List ℕ) (k : ℕ) → is_held ks k ≡ true → start_in ks k ≡ places_in (take (first ks k) ks)
unfolding is_held start_in sum_over
start_first [] k h = refl
start_first (j ∷ ks) k h = go (eqb j k) h (start_first ks k)
  where
    go : (b : Bool) → (b || is_held ks k) ≡ true → (is_held ks k ≡ true → start_in ks k ≡ places_in (take (first ks k) ks)) → cond b 0 (places_of j + start_in ks k) ≡ places_in (take (cond (not b) (1 + first ks k) 0) (j ∷ ks))
    go true h r = refl
    go false h r = let e : suc (first ks k) ≡ 1 + first ks k = omega arith in ap (λ (n : ℕ). places_of j + n) (r h) ∙ ap (λ (n : ℕ). places_in (take n (j ∷ ks))) e

-- where it starts, by that place
module _ (ks : List ℕ) (k : ℕ) where
  abbrev placed : Bool → Option ℕ
  placed b = cond b (Some (first ks k)) None

  abbrev starts : Bool → Option ℕ
  starts b = cond b (Some (start_in ks k)) None

  pub start_none : (r : Option ℕ) → r ≡ position (λ j. eqb j k) ks → r ≡ None → None ≡ cond (is_held ks k) (Some (start_in ks k)) None
  start_none r e f = go (is_held ks k) (sym (f) ∙ e ∙ ap placed (sym (held_first ks k)))
    where
      go : (b : Bool) → None ≡ placed b → None ≡ starts b
      go true h = cc
      go false h = refl

  pub start_some : (r : Option ℕ) (i n : ℕ) → r ≡ position (λ j. eqb j k) ks → r ≡ Some i → n ≡ places_in (take i ks) → Some n ≡ cond (is_held ks k) (Some (start_in ks k)) None
  start_some r i n e f g = go (is_held ks k) refl (sym f ∙ e ∙ ap placed (sym (held_first ks k)))
    where
      go : (b : Bool) → is_held ks k ≡ b → Some i ≡ placed b → Some n ≡ starts b
      go true q h =
          let j : i ≡ first ks k = cc in
          ap Some (g ∙ ap (λ (m : ℕ). places_in (take m ks)) j ∙ sym (start_first ks k q))
      go false q h = cc

-- ---- each is a kind, and none is there twice: from a place on
module _ (ks : List ℕ) (i : ℕ) where
  module _ (h : i < length ks) where
    -- whether the kind there is among those behind it, as the library's test has it
    again : (b : Bool) → b ≡ list_any (λ j. eqb j (get_or ks i 0)) (take (length ks - (i + 1)) (drop (i + 1) ks)) → is_held (drop (i + 1) ks) (get_or ks i 0) ≡ b
    again b e = sym (e ∙ ap (list_any (λ j. eqb j (get_or ks i 0))) (take_rest ks (i + 1)) ∙ held_any (drop (i + 1) ks) (get_or ks i 0))

    pub single_far : 17 ≤ get_or ks i 0 → single (drop i ks) ≡ false
    unfolding single
    single_far e = rw (drop_more ks i 0 h, le-ltb (get_or ks i 0) 17 e)

    pub single_twice : (b : Bool) → b ≡ list_any (λ j. eqb j (get_or ks i 0)) (take (length ks - (i + 1)) (drop (i + 1) ks)) → b ≡ true → single (drop i ks) ≡ false
    unfolding single
    single_twice b e f = rw (drop_more ks i 0 h, again b e, f) (and-false (ltb (get_or ks i 0) 17))

    pub single_on : (b : Bool) → get_or ks i 0 < 17 → b ≡ list_any (λ j. eqb j (get_or ks i 0)) (take (length ks - (i + 1)) (drop (i + 1) ks)) → b ≡ false → single (drop i ks) ≡ single (drop (i + 1) ks)
    unfolding single
    single_on b g e f = rw (drop_more ks i 0 h, lt-ltb (get_or ks i 0) 17 g, again b e, f)

  pub single_none : length ks ≤ i → single (drop i ks) ≡ true
  unfolding single
  single_none h = rw (drop_all i ks h)
