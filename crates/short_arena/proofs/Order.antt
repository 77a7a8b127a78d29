-- One kind more and one fewer: which are held then, and where each starts. Assumes nothing.
use mathlib.Core.Path.{◌≡◌, refl, sym, ap, ◌∙◌}
use mathlib.Core.Bool.{Bool, true, false, cond, not, ◌||◌, true≢false, or-false}
use mathlib.Core.Logic.{◌⊎◌, inl, inr, ⊎_elim}
use mathlib.Core.List.{List, [], ◌∷◌, ◌++◌}
use Prim.Native.Nat.{ℕ, ◌+◌, ◌≤◌, ◌<◌}
use native.Mathlib.Omega.{arith}
use borrow.Author.Tests.{eq-eqb, ne_eqb, eqb-true, eqb-false, ltb-true, lt-ltb, not-true}
use lib.Dec.{eqb, ltb}
use Rattle.transform.specs.Kinds.{places_of}
use Rattle.short_arena.specs.Held.{is_held, single, sum_over, places_in, start_in, without}
use Rattle.transform.proofs.Chain.{left, right}

-- neither of two
neither : (a b : Bool) → (a || b) ≡ false → (a ≡ false) × (b ≡ false)
neither true b e = absurd (true≢false e)
neither false b e = (refl, e)

-- what single says of the first
record First (j : ℕ) (ks : List ℕ) : Type 0 where
  pub small : j < 17
  pub away : is_held ks j ≡ false
  pub rest : single ks ≡ true

first_of : (j : ℕ) (ks : List ℕ) → single (j ∷ ks) ≡ true → First j ks
unfolding single
first_of j ks e =
    let e1 = right (ltb j 17) _ e in
    record { small = ltb-true j 17 (left (ltb j 17) _ e); away = not-true (is_held ks j) (left (not (is_held ks j)) (single ks) e1); rest = right (not (is_held ks j)) (single ks) e1 }

of_first : (j : ℕ) (ks : List ℕ) → j < 17 → is_held ks j ≡ false → single ks ≡ true → single (j ∷ ks) ≡ true
unfolding single
of_first j ks h a r = rw (lt-ltb j 17 h, a, r)

pub held_small : (ks : List ℕ) (k : ℕ) → single ks ≡ true → is_held ks k ≡ true → k < 17
unfolding is_held
held_small [] k e h = absurd (true≢false (sym h))
held_small (j ∷ ks) k e h = go (eqb j k) refl h (first_of j ks e) (held_small ks k)
  where
    go : (b : Bool) → eqb j k ≡ b → (b || is_held ks k) ≡ true → First j ks → (single ks ≡ true → is_held ks k ≡ true → k < 17) → k < 17
    go true q f s r = let i = eqb-true j k q in let m = s.small in omega arith
    go false q f s r = r s.rest f

-- ---- one kind more
pub held_snoc : (ks : List ℕ) (k j : ℕ) → is_held (ks ++ k ∷ []) j ≡ (is_held ks j || eqb k j)
unfolding is_held
held_snoc [] k j = or-false (eqb k j)
held_snoc (i ∷ ks) k j = go (eqb i j) (held_snoc ks k j)
  where
    go : (b : Bool) → is_held (ks ++ k ∷ []) j ≡ (is_held ks j || eqb k j) → (b || is_held (ks ++ k ∷ []) j) ≡ ((b || is_held ks j) || eqb k j)
    go true e = refl
    go false e = e

pub single_snoc : (ks : List ℕ) (k : ℕ) → single ks ≡ true → k < 17 → is_held ks k ≡ false → single (ks ++ k ∷ []) ≡ true
unfolding is_held
single_snoc [] k e h a = of_first k [] h refl (unfold single in refl)
single_snoc (j ∷ ks) k e h a =
    let s = first_of j ks e in
    let n = neither (eqb j k) (is_held ks k) a in
    let apart : eqb k j ≡ false = ne_eqb k j (λ i. eqb-false j k n.0 (sym i)) in
    of_first j (ks ++ k ∷ []) s.small (held_snoc ks k j ∙ ap (λ (b : Bool). b || eqb k j) s.away ∙ apart) (single_snoc ks k s.rest h n.1)

pub places_snoc : (ks : List ℕ) (k : ℕ) → places_in (ks ++ k ∷ []) ≡ places_in ks + places_of k
unfolding sum_over
places_snoc [] k = omega arith
places_snoc (j ∷ ks) k = let e = places_snoc ks k in omega arith

pub start_last : (ks : List ℕ) (k : ℕ) → is_held ks k ≡ false → start_in (ks ++ k ∷ []) k ≡ places_in ks
unfolding is_held start_in sum_over
start_last [] k a = rw (eq-eqb k k refl)
start_last (j ∷ ks) k a =
    let n = neither (eqb j k) (is_held ks k) a in
    rw n.0 (ap (λ (m : ℕ). places_of j + m) (start_last ks k n.1))

pub start_before : (ks : List ℕ) (k j : ℕ) → is_held ks j ≡ true → start_in (ks ++ k ∷ []) j ≡ start_in ks j
unfolding is_held start_in
start_before [] k j h = absurd (true≢false (sym h))
start_before (i ∷ ks) k j h = go (eqb i j) h (start_before ks k j)
  where
    go : (b : Bool) → (b || is_held ks j) ≡ true → (is_held ks j ≡ true → start_in (ks ++ k ∷ []) j ≡ start_in ks j) → cond b 0 (places_of i + start_in (ks ++ k ∷ []) j) ≡ cond b 0 (places_of i + start_in ks j)
    go true f r = refl
    go false f r = ap (λ (m : ℕ). places_of i + m) (r f)

-- ---- one kind fewer
pub gone : (ks : List ℕ) (k : ℕ) → is_held (without ks k) k ≡ false
unfolding is_held without
gone [] k = refl
gone (j ∷ ks) k = go (eqb j k) refl (gone ks k)
  where
    go : (b : Bool) → eqb j k ≡ b → is_held (without ks k) k ≡ false → is_held (cond b (without ks k) (j ∷ without ks k)) k ≡ false
    go true q r = r
    go false q r = rw (q, r)

pub held_other : (ks : List ℕ) (k j : ℕ) → (j ≡ k → ⊥) → is_held (without ks k) j ≡ is_held ks j
unfolding is_held without
held_other [] k j n = refl
held_other (i ∷ ks) k j n = go (eqb i k) refl (held_other ks k j n)
  where
    go : (b : Bool) → eqb i k ≡ b → is_held (without ks k) j ≡ is_held ks j → is_held (cond b (without ks k) (i ∷ without ks k)) j ≡ (eqb i j || is_held ks j)
    go true q r = rw (ne_eqb i j (λ e. n (sym e ∙ eqb-true i k q))) r
    go false q r = ap (λ (b : Bool). eqb i j || b) r

without_none : (ks : List ℕ) (k : ℕ) → is_held ks k ≡ false → without ks k ≡ ks
unfolding is_held without
without_none [] k a = refl
without_none (j ∷ ks) k a =
    let n = neither (eqb j k) (is_held ks k) a in
    rw n.0 (ap (λ (l : List ℕ). j ∷ l) (without_none ks k n.1))

pub single_without : (ks : List ℕ) (k : ℕ) → single ks ≡ true → single (without ks k) ≡ true
unfolding without
single_without [] k e = e
single_without (j ∷ ks) k e = go (eqb j k) refl (first_of j ks e) (single_without ks k)
  where
    go : (b : Bool) → eqb j k ≡ b → First j ks → (single ks ≡ true → single (without ks k) ≡ true) → single (cond b (without ks k) (j ∷ without ks k)) ≡ true
    go true q s r = r s.rest
    go false q s r = of_first j (without ks k) s.small (held_other ks k j (eqb-false j k q) ∙ s.away) (r s.rest)

pub places_without : (ks : List ℕ) (k : ℕ) → single ks ≡ true → is_held ks k ≡ true → places_in (without ks k) + places_of k ≡ places_in ks
unfolding is_held without sum_over
places_without [] k e h = absurd (true≢false (sym h))
places_without (j ∷ ks) k e h = go (eqb j k) refl h (first_of j ks e) (places_without ks k)
  where
    go : (b : Bool) → eqb j k ≡ b → (b || is_held ks k) ≡ true → First j ks → (single ks ≡ true → is_held ks k ≡ true → places_in (without ks k) + places_of k ≡ places_in ks) → places_in (cond b (without ks k) (j ∷ without ks k)) + places_of k ≡ places_of j + places_in ks
    go true q f s r =
        let i = eqb-true j k q in
        let a : without ks k ≡ ks = without_none ks k (ap (is_held ks) (sym i) ∙ s.away) in
        let p : places_in (without ks k) ≡ places_in ks = ap places_in a in
        let m : places_of j ≡ places_of k = ap places_of i in
        omega arith
    go false q f s r = let i = r s.rest f in omega arith

-- another kind lies before the one that goes, and stays, or behind it, and moves down by its places
pub record Stays (ks : List ℕ) (k j : ℕ) : Type 0 where
  pub ends : start_in ks j + places_of j ≤ start_in ks k
  pub same : start_in (without ks k) j ≡ start_in ks j

pub record Moves (ks : List ℕ) (k j : ℕ) : Type 0 where
  pub starts : start_in ks k + places_of k ≤ start_in ks j
  pub lower : start_in (without ks k) j + places_of k ≡ start_in ks j

module _ (i : ℕ) (ks : List ℕ) (k : ℕ) where
  start_here : eqb i k ≡ true → start_in (i ∷ ks) k ≡ 0
  unfolding start_in
  start_here e = rw e

  start_next : eqb i k ≡ false → start_in (i ∷ ks) k ≡ places_of i + start_in ks k
  unfolding start_in
  start_next e = rw e

  without_here : eqb i k ≡ true → without (i ∷ ks) k ≡ without ks k
  unfolding without
  without_here e = rw e

  without_next : eqb i k ≡ false → without (i ∷ ks) k ≡ i ∷ without ks k
  unfolding without
  without_next e = rw e

pub either : (ks : List ℕ) (k j : ℕ) → single ks ≡ true → is_held ks k ≡ true → is_held ks j ≡ true → (j ≡ k → ⊥) → Stays ks k j ⊎ Moves ks k j
unfolding is_held
either [] k j e h g n = absurd (true≢false (sym h))
either (i ∷ ks) k j e h g n = go (eqb i k) (eqb i j) refl refl h g (first_of i ks e) (λ s p q. either ks k j s p q n)
  where
    go : (b c : Bool) → eqb i k ≡ b → eqb i j ≡ c → (b || is_held ks k) ≡ true → (c || is_held ks j) ≡ true → First i ks → (single ks ≡ true → is_held ks k ≡ true → is_held ks j ≡ true → Stays ks k j ⊎ Moves ks k j) → Stays (i ∷ ks) k j ⊎ Moves (i ∷ ks) k j
    go true true p q a b s r = absurd (n (sym (eqb-true i j q) ∙ eqb-true i k p))
    go true false p q a b s r =
        let z = start_here i ks k p in
        let x = start_next i ks j q in
        let m : places_of i ≡ places_of k = ap places_of (eqb-true i k p) in
        let w : start_in (without (i ∷ ks) k) j ≡ start_in ks j = ap (λ (l : List ℕ). start_in l j) (without_here i ks k p ∙ without_none ks k (ap (is_held ks) (sym (eqb-true i k p)) ∙ s.away)) in
        inr (record { starts = omega arith; lower = omega arith })
    go false true p q a b s r =
        let z = start_here i ks j q in
        let x = start_next i ks k p in
        let m : places_of i ≡ places_of j = ap places_of (eqb-true i j q) in
        let w : start_in (without (i ∷ ks) k) j ≡ 0 = ap (λ (l : List ℕ). start_in l j) (without_next i ks k p) ∙ start_here i (without ks k) j q in
        inl (record { ends = omega arith; same = omega arith })
    go false false p q a b s r =
        let z = start_next i ks j q in
        let x = start_next i ks k p in
        let w : start_in (without (i ∷ ks) k) j ≡ places_of i + start_in (without ks k) j = ap (λ (l : List ℕ). start_in l j) (without_next i ks k p) ∙ start_next i (without ks k) j q in
        ⊎_elim (λ t. let u = t.ends in let v = t.same in inl (record { ends = omega arith; same = omega arith })) (λ t. let u = t.starts in let v = t.lower in inr (record { starts = omega arith; lower = omega arith })) (r s.rest a b)
