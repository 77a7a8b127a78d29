-- The state's array: the kinds held and 0 behind them. Assumes nothing.
use mathlib.Core.Path.{◌≡◌, refl, sym, ap, ◌∙◌}
use mathlib.Core.Bool.{Bool, true, false, cond}
use mathlib.Core.List.{List, [], ◌∷◌, ◌++◌, append-nil}
use Prim.Native.Nat.{ℕ, suc, ◌+◌, ◌-◌, ◌≤◌, ◌<◌}
use native.Mathlib.Numerals.{add-one}
use native.Mathlib.Omega.{arith}
use borrow.Author.Tests.{eq-eqb, ne_eqb}
use lib.Dec.{eqb}
use lib.ListN.{length, get_or, take, drop, set, replicate, length-append, length-drop, take-append-drop}
use lib.Seq.{take_all, length-take-le, set_split, drop-cons, append_snoc, take-suc, set_at}
use Rattle.short_arena.specs.declared.held.State.{State}
use Rattle.short_arena.specs.Held.{held_of, state_of, without}
use Rattle.transform.specs.Zeros.{all_zero}
use Rattle.transform.proofs.ZeroLaws.{zeros_of}
use Rattle.transform.proofs.Chain.{right}

-- what stands behind n of 17
pub rest_is : (n : ℕ) (l : List ℕ) → length l ≡ 17 → take (17 - n) (drop n l) ≡ drop n l
rest_is n l e = take_all (17 - n) (drop n l) (let d = length-drop n l in omega arith)

abbrev state : ℕ → List ℕ → State
state n l = record { count = n; kinds = l }

pub same_state : (a b : ℕ) (l m : List ℕ) → a ≡ b → l ≡ m → ◌≡◌ {A = State} (record { count = a; kinds = l }) (record { count = b; kinds = m })
same_state a b l m e f = ap (λ (n : ℕ). state n l) e ∙ ap (state b) f

abbrev pub padded : List ℕ → List ℕ
padded l = l ++ replicate (17 - length l) 0

-- one kind more behind n of them
module _ (n : ℕ) (l : List ℕ) (k : ℕ) (e : length l ≡ 17) (h : n < 17) (z : all_zero (drop n l) ≡ true) where
  fits : n < length l
  fits = omega arith

  count_more : length (take n l ++ k ∷ []) ≡ n + 1
  count_more = length-append (take n l) (k ∷ []) ∙ ap (λ (m : ℕ). m + 1) (length-take-le n l (omega arith))

  later_zeros : drop (suc n) l ≡ replicate (17 - (n + 1)) 0
  later_zeros =
      let z1 : all_zero (get_or l n 0 ∷ drop (suc n) l) ≡ true = sym (ap all_zero (drop-cons l n 0 fits)) ∙ z in
      zeros_of (drop (suc n) l) (right (eqb (get_or l n 0) 0) (all_zero (drop (suc n) l)) z1)
      ∙ ap (λ (m : ℕ). replicate m 0) (length-drop (suc n) l ∙ ap (λ (m : ℕ). m - suc n) e ∙ ap (λ (m : ℕ). 17 - m) (sym (add-one n)))

  pub state_more : ◌≡◌ {A = State} (record { count = n + 1; kinds = set l n k }) (state_of (take n l ++ k ∷ []))
  state_more =
      same_state (n + 1) (length (take n l ++ k ∷ [])) (set l n k) (padded (take n l ++ k ∷ [])) (sym count_more)
      (set_split l n k fits
      ∙ ap (λ (r : List ℕ). take n l ++ k ∷ r) (later_zeros ∙ ap (λ (m : ℕ). replicate (17 - m) 0) (sym count_more))
      ∙ sym (append_snoc (take n l) k (replicate (17 - length (take n l ++ k ∷ [])) 0)))

-- a state that is lent right is the state of its kinds
pub state_same : (s : State) → length s.kinds ≡ 17 → s.count ≤ 17 → all_zero (drop s.count s.kinds) ≡ true → s ≡ state_of (held_of s)
state_same s e h z =
    let c : s.count ≡ length (held_of s) = sym (length-take-le s.count s.kinds (omega arith)) in
    same_state s.count (length (held_of s)) s.kinds (padded (held_of s)) c
    (sym (take-append-drop s.count s.kinds)
    ∙ ap (λ (r : List ℕ). held_of s ++ r) (zeros_of (drop s.count s.kinds) z ∙ ap (λ (m : ℕ). replicate m 0) (length-drop s.count s.kinds ∙ ap (λ (m : ℕ). m - s.count) e ∙ ap (λ (m : ℕ). 17 - m) c)))

-- ---- a loop that leaves one kind out
without_snoc : (l : List ℕ) (x k : ℕ) → without (l ++ x ∷ []) k ≡ without l k ++ cond (eqb x k) [] (x ∷ [])
unfolding without
without_snoc [] x k = go (eqb x k)
  where
    go : (b : Bool) → cond b [] (x ∷ []) ≡ [] ++ cond b [] (x ∷ [])
    go true = refl
    go false = refl
without_snoc (j ∷ l) x k = go (eqb j k) (without_snoc l x k)
  where
    go : (b : Bool) → without (l ++ x ∷ []) k ≡ without l k ++ cond (eqb x k) [] (x ∷ []) → cond b (without (l ++ x ∷ []) k) (j ∷ without (l ++ x ∷ []) k) ≡ cond b (without l k) (j ∷ without l k) ++ cond (eqb x k) [] (x ∷ [])
    go true e = e
    go false e = ap (λ (r : List ℕ). j ∷ r) e

module _ (l : List ℕ) (i k : ℕ) (h : i < length l) where
  one_more : take (i + 1) l ≡ take i l ++ get_or l i 0 ∷ []
  one_more = ap (λ (m : ℕ). take m l) (add-one i) ∙ take-suc l i 0 h

  pub without_same : get_or l i 0 ≡ k → without (take (i + 1) l) k ≡ without (take i l) k
  without_same e =
      ap (λ (r : List ℕ). without r k) one_more ∙ without_snoc (take i l) (get_or l i 0) k
      ∙ ap (λ (b : Bool). without (take i l) k ++ cond b [] (get_or l i 0 ∷ [])) (eq-eqb (get_or l i 0) k e) ∙ append-nil (without (take i l) k)

  pub without_other : (get_or l i 0 ≡ k → ⊥) → without (take (i + 1) l) k ≡ without (take i l) k ++ get_or l i 0 ∷ []
  without_other e =
      ap (λ (r : List ℕ). without r k) one_more ∙ without_snoc (take i l) (get_or l i 0) k
      ∙ ap (λ (b : Bool). without (take i l) k ++ cond b [] (get_or l i 0 ∷ [])) (ne_eqb (get_or l i 0) k e)

-- the next of them
pub put_next : (l : List ℕ) (x : ℕ) → length l < 17 → set (padded l) (length l) x ≡ padded (l ++ x ∷ [])
put_next l x h =
    let m = 17 - suc (length l) in
    let e : 17 - length l ≡ suc m = omega arith in
    let f : m ≡ 17 - length (l ++ x ∷ []) = ap (λ (n : ℕ). 17 - n) (sym (length-append l (x ∷ []) ∙ add-one (length l))) in
    ap (λ (n : ℕ). set (l ++ replicate n 0) (length l) x) e
    ∙ set_at l 0 (replicate m 0) x (length l) refl
    ∙ sym (append_snoc l x (replicate m 0))
    ∙ ap (λ (n : ℕ). l ++ (x ∷ []) ++ replicate n 0) f

-- the first i kinds but one, and 0 behind them
pub record Kept (ks : List ℕ) (k i n : ℕ) (kinds : List ℕ) : Type 0 where
  pub few : n ≤ i
  pub counted : n ≡ length (without (take i ks) k)
  pub kept : kinds ≡ padded (without (take i ks) k)

pub kept_none : (ks : List ℕ) (k : ℕ) → Kept ks k 0 0 (replicate 17 0)
unfolding without
kept_none ks k = record { few = omega arith; counted = refl; kept = refl }

module _ (ks : List ℕ) (k i n : ℕ) (kinds : List ℕ) (g : Kept ks k i n kinds) (h : i < length ks) where
  pub kept_same : get_or ks i 0 ≡ k → Kept ks k (i + 1) n kinds
  kept_same e =
      let f = without_same ks i k h e in
      let w = g.few in
      record { few = omega arith; counted = g.counted ∙ ap length (sym f); kept = g.kept ∙ ap padded (sym f) }

  pub kept_other : length ks ≤ 17 → (get_or ks i 0 ≡ k → ⊥) → Kept ks k (i + 1) (n + 1) (set kinds n (get_or ks i 0))
  kept_other m e =
      let x = get_or ks i 0 in
      let l = without (take i ks) k in
      let f = without_other ks i k h e in
      let w = g.few in
      let c = g.counted in
      record {
        few = omega arith;
        counted = ap (λ (j : ℕ). j + 1) c ∙ sym (ap length f ∙ length-append l (x ∷ []));
        kept = ap (λ (r : List ℕ). set r n x) g.kept ∙ ap (λ (j : ℕ). set (padded l) j x) c ∙ put_next l x (omega arith) ∙ ap padded (sym f);
      }
