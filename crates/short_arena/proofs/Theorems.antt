-- The short arena: after any list of calls each kind shows the weights that it was added with, and the places in use are those of the kinds
-- added and not dropped since. Each refusal, exactly when; and what a drop leaves behind the places in use. Assumes nothing.
use mathlib.Core.Path.{◌≡◌, refl, sym, ap, ◌∙◌, subst}
use mathlib.Core.Bool.{Bool, true, false, cond, ◌&&◌, ◌||◌, or-true, or-false}
use mathlib.Core.Logic.{◌↔◌, ⊎_elim}
use mathlib.Core.Option.{Option, none, some}
use mathlib.Core.List.{List, [], ◌∷◌, ◌++◌}
use Prim.Native.Nat.{ℕ, ◌+◌, ◌-◌, ◌≤◌, ◌<◌}
use native.Mathlib.Omega.{arith}
use borrow.Author.Tests.{eq-eqb, ne_eqb, eqb-true, eqb-false, ltb-true, ltb-false}
use lib.Dec.{eqb, ltb, ltb→lt}
use lib.ListN.{length, get_or, take, drop, replicate}
use lib.Seq.{take-append_seam, drop-append_seam}
use lib.Ieee.{Float, of_bits, binary32}
use Rattle.transform.specs.Kinds.{places_of}
use Rattle.transform.proofs.Chain.{left, right}
use Rattle.transform.proofs.Laws.{at, side}
use Rattle.transform.proofs.Numbered.{differs}
use Rattle.transform.proofs.ZeroLaws.{of_zeros}
use Rattle.slices.specs.Slices.{laid_at, closed_at}
use Rattle.slices.proofs.Places.{laid_at_lem, laid_before, laid_at_length, closed_length, closed_before, closed_behind, closed_end}
use Rattle.short_arena.specs.declared.held.State.{State}
use Rattle.std.proofs.Common.{Result, Ok, Err}
use Rattle.short_arena.specs.declared.arena.Part.{Part}
use Rattle.short_arena.specs.declared.arena.ShortError.{ShortError}
use Rattle.short_arena.specs.declared.arena.ShortError.TheVariants.{Lent, Held, Full, Gone}
use Rattle.short_arena.specs.Held.{held_of, state_of, is_held, single, sum_over, places_in, start_in, without}
use Rattle.transform.specs.Zeros.{all_zero}
use Rattle.short_arena.specs.Short.{short_reply, drop_reply, part_at, lent_right, add_answer, add_state, add_arena, find_answer, drop_answer, drop_state, drop_arena, leaves, part_in, part_with, shown}
use Rattle.short_arena.specs.Calls.{AddRight, Call, adding, finding, dropping, Noted, note, Left, call, calls, begun, with_done, seen, is_noted, sum_below, noted_places}
use Rattle.short_arena.proofs.Lending.{is_right, right_is, no_kind}
use Rattle.short_arena.proofs.Sums.{sum_is, same_below, few}
use Rattle.short_arena.proofs.Answers.{start_fits, add_held, add_full, find_says, shows_part, add_says, add_lays}
use Rattle.short_arena.proofs.Order.{held_small, held_snoc, single_snoc, places_snoc, start_last, start_before, gone, held_other, single_without, places_without, either}

-- the part of a kind that is held
abbrev held_part : List Float → List ℕ → ℕ → Option (List Float)
held_part a ks k = cond (is_held ks k) (some (part_in a ks k)) none

-- a kind that is held, or is not
part_there : (a : List Float) (ks : List ℕ) (k : ℕ) → is_held ks k ≡ true → held_part a ks k ≡ some (part_in a ks k)
part_there a ks k e = ap (λ (b : Bool). cond b (some (part_in a ks k)) none) e

part_away : (a : List Float) (ks : List ℕ) (k : ℕ) → is_held ks k ≡ false → held_part a ks k ≡ none
part_away a ks k e = ap (λ (b : Bool). cond b (some (part_in a ks k)) none) e

-- two arenas with the same kind held in both, or in neither, and the same weights of it
part_same : (a b : List Float) (ks js : List ℕ) (k : ℕ) → is_held js k ≡ is_held ks k → (is_held ks k ≡ true → part_in b js k ≡ part_in a ks k) → held_part a ks k ≡ held_part b js k
part_same a b ks js k e f = go (is_held ks k) refl
  where
    go : (x : Bool) → is_held ks k ≡ x → held_part a ks k ≡ held_part b js k
    go true i = part_there a ks k i ∙ ap some (sym (f i)) ∙ sym (part_there b js k (e ∙ i))
    go false i = part_away a ks k i ∙ sym (part_away b js k (e ∙ i))

-- what holds between the calls
record Good (d : Left) : Type 0 where
  pub count : d.state.count ≤ 17
  pub behind : all_zero (drop d.state.count d.state.kinds) ≡ true
  pub once : single (held_of d.state) ≡ true
  pub room : places_in (held_of d.state) ≤ length d.arena
  pub small : length d.arena ≤ 394752
  pub told : (k : ℕ) → d.noted k ≡ held_part d.arena (held_of d.state) k

abbrev desk : List Float → List ℕ → Noted → Left
desk a ks w = record { arena = a; state = state_of ks; noted = w }

good_of : (a : List Float) (ks : List ℕ) (w : Noted) → single ks ≡ true → places_in ks ≤ length a → length a ≤ 394752 → ((k : ℕ) → w k ≡ held_part a ks k) → Good (desk a ks w)
good_of a ks w e r s t =
    let h : held_of (state_of ks) ≡ ks = take-append_seam ks (replicate (17 - length ks) 0) in
    record {
      count = few ks e;
      behind = ap all_zero (drop-append_seam ks (replicate (17 - length ks) 0)) ∙ of_zeros (17 - length ks);
      once = ap single h ∙ e;
      room = subst (λ (l : List ℕ). places_in l ≤ length a) (sym h) r;
      small = s;
      told = λ k. t k ∙ ap (λ (l : List ℕ). held_part a l k) (sym h);
    }

-- ---- one kind more
module _ (d : Left) (g : Good d) (k : ℕ) (ws : List Float) where
  abbrev ks : List ℕ
  ks = held_of d.state

  abbrev more : List Float
  more = laid_at (places_in ks) ws d.arena

  module _ (m : length ws ≡ places_of k) (h : k < 17) (n : is_held ks k ≡ false) (f : places_of k ≤ length d.arena - places_in ks) where
    fits : places_in ks + length ws ≤ length d.arena
    fits = let r = g.room in omega arith

    told_here : held_part more (ks ++ k ∷ []) k ≡ some ws
    told_here =
        part_there more (ks ++ k ∷ []) k (held_snoc ks k k ∙ ap (λ (b : Bool). is_held ks k || b) (eq-eqb k k refl) ∙ or-true (is_held ks k))
        ∙ ap (λ (i : ℕ). some (take (places_of k) (drop i more))) (start_last ks k n)
        ∙ ap (λ (i : ℕ). some (take i (drop (places_in ks) more))) (sym m)
        ∙ ap some (laid_at_lem d.arena ws (places_in ks) g.room)

    told_other : (j : ℕ) → (j ≡ k → ⊥) → held_part d.arena ks j ≡ held_part more (ks ++ k ∷ []) j
    told_other j a =
        part_same d.arena more ks (ks ++ k ∷ []) j
        (held_snoc ks k j ∙ ap (λ (b : Bool). is_held ks j || b) (ne_eqb k j (λ i. a (sym i))) ∙ or-false (is_held ks j))
        (λ e. ap (λ (i : ℕ). take (places_of j) (drop i more)) (start_before ks k j e) ∙ laid_before d.arena ws (places_in ks) (start_in ks j) (places_of j) (start_fits ks j e) g.room)

    add_told : (j : ℕ) → note d.noted k (some ws) j ≡ held_part more (ks ++ k ∷ []) j
    add_told j = go (eqb j k) refl
      where
        go : (b : Bool) → eqb j k ≡ b → cond b (some ws) (d.noted j) ≡ held_part more (ks ++ k ∷ []) j
        go true e = sym (ap (held_part more (ks ++ k ∷ [])) (eqb-true j k e) ∙ told_here)
        go false e = g.told j ∙ told_other j (eqb-false j k e)

    added_good : Good (desk more (ks ++ k ∷ []) (note d.noted k (some ws)))
    added_good =
        let long = laid_at_length d.arena ws (places_in ks) fits in
        let p = places_snoc ks k in
        let q = fits in
        let s = g.small in
        good_of more (ks ++ k ∷ []) (note d.noted k (some ws)) (single_snoc ks k g.once h n) (omega arith) (omega arith) add_told

  add_good : Good (call (adding k ws) d)
  unfolding add_answer add_state add_arena
  add_good = go (eqb (length ws) (places_of k) && lent_right (length d.arena) d.state k) (is_held ks k) (ltb (length d.arena - places_in ks) (places_of k)) refl refl refl
    where
      P : Result Part ShortError → Type 0
      P r = Good (record { arena = leaves r more d.arena; state = leaves r (state_of (ks ++ k ∷ [])) d.state; noted = leaves r (note d.noted k (some ws)) d.noted })

      go : (x y z : Bool) → (eqb (length ws) (places_of k) && lent_right (length d.arena) d.state k) ≡ x → is_held ks k ≡ y → ltb (length d.arena - places_in ks) (places_of k) ≡ z
          → P (cond x (cond y (Err Held) (cond z (Err Full) (Ok (part_at (places_in ks) (places_of k))))) (Err Lent))
      go true true z p q r = g
      go true false true p q r = g
      go true false false p q r =
          let e = right (eqb (length ws) (places_of k)) (lent_right (length d.arena) d.state k) p in
          added_good (eqb-true (length ws) (places_of k) (left (eqb (length ws) (places_of k)) (lent_right (length d.arena) d.state k) p)) (is_right (length d.arena) d.state k e).kind q (ltb-false (length d.arena - places_in ks) (places_of k) r)
      go false y z p q r = g

-- ---- one kind fewer
module _ (d : Left) (g : Good d) (k : ℕ) where
  abbrev js : List ℕ
  js = held_of d.state

  abbrev shut : List Float
  shut = closed_at (of_bits binary32 0) (start_in js k) (places_of k) (places_in js) d.arena

  module _ (h : is_held js k ≡ true) where
    moved : (j : ℕ) → (j ≡ k → ⊥) → is_held js j ≡ true → part_in shut (without js k) j ≡ part_in d.arena js j
    moved j a e =
        let z = of_bits binary32 0 in
        let f = start_fits js k h in
        ⊎_elim
        (λ s. ap (λ (i : ℕ). take (places_of j) (drop i shut)) s.same ∙ closed_before d.arena z (start_in js k) (places_of k) (places_in js) f g.room (start_in js j) (places_of j) s.ends)
        (λ s. closed_behind d.arena z (start_in js k) (places_of k) (places_in js) f g.room (start_in js j) (start_in (without js k) j) (places_of j) s.starts (start_fits js j e) s.lower)
        (either js k j g.once h e a)

    drop_told : (j : ℕ) → note d.noted k none j ≡ held_part shut (without js k) j
    drop_told j = go (eqb j k) refl
      where
        go : (b : Bool) → eqb j k ≡ b → cond b none (d.noted j) ≡ held_part shut (without js k) j
        go true e = sym (part_away shut (without js k) j (ap (is_held (without js k)) (eqb-true j k e) ∙ gone js k))
        go false e =
            let a = eqb-false j k e in
            g.told j ∙ part_same d.arena shut js (without js k) j (held_other js k j a) (moved j a)

    dropped_good : Good (desk shut (without js k) (note d.noted k none))
    dropped_good =
        let long = closed_length d.arena (of_bits binary32 0) (start_in js k) (places_of k) (places_in js) (start_fits js k h) g.room in
        let p = places_without js k g.once h in
        let r = g.room in
        let s = g.small in
        good_of shut (without js k) (note d.noted k none) (single_without js k g.once) (omega arith) (omega arith) drop_told

  drop_good : Good (call (dropping k) d)
  unfolding drop_answer drop_state drop_arena
  drop_good = go (lent_right (length d.arena) d.state k) (is_held js k) refl
    where
      P : Result (Unit {0}) ShortError → Type 0
      P r = Good (record { arena = leaves r shut d.arena; state = leaves r (state_of (without js k)) d.state; noted = leaves r (note d.noted k none) d.noted })

      go : (x y : Bool) → is_held js k ≡ y → P (cond x (cond y (Ok tt) (Err Gone)) (Err Lent))
      go true true q = dropped_good q
      go true false q = g
      go false y q = g

-- ---- no call changes how many places there are, whatever is lent
add_length : (a : List Float) (s : State) (k : ℕ) (ws : List Float) → length (add_arena a s k ws) ≡ length a
unfolding add_arena add_answer
add_length a s k ws = go (eqb (length ws) (places_of k) && lent_right (length a) s k) (is_held (held_of s) k) (ltb (length a - places_in (held_of s)) (places_of k)) refl refl
  where
    long : Result Part ShortError → Type 0
    long r = length (leaves r (laid_at (places_in (held_of s)) ws a) a) ≡ length a

    go : (x y z : Bool) → (eqb (length ws) (places_of k) && lent_right (length a) s k) ≡ x → ltb (length a - places_in (held_of s)) (places_of k) ≡ z
        → long (cond x (cond y (Err Held) (cond z (Err Full) (Ok (part_at (places_in (held_of s)) (places_of k))))) (Err Lent))
    go true true z p r = refl
    go true false true p r = refl
    go true false false p r =
        let m = eqb-true (length ws) (places_of k) (left (eqb (length ws) (places_of k)) (lent_right (length a) s k) p) in
        let g = is_right (length a) s k (right (eqb (length ws) (places_of k)) (lent_right (length a) s k) p) in
        laid_at_length a ws (places_in (held_of s)) (omega (arith, g.room, ltb-false (length a - places_in (held_of s)) (places_of k) r))
    go false y z p r = refl

drop_length : (a : List Float) (s : State) (k : ℕ) → length (drop_arena a s k) ≡ length a
unfolding drop_arena drop_answer
drop_length a s k = go (lent_right (length a) s k) (is_held (held_of s) k) refl refl
  where
    long : Result (Unit {0}) ShortError → Type 0
    long r = length (leaves r (closed_at (of_bits binary32 0) (start_in (held_of s) k) (places_of k) (places_in (held_of s)) a) a) ≡ length a

    go : (x y : Bool) → lent_right (length a) s k ≡ x → is_held (held_of s) k ≡ y → long (cond x (cond y (Ok tt) (Err Gone)) (Err Lent))
    go true true p q = closed_length a (of_bits binary32 0) (start_in (held_of s) k) (places_of k) (places_in (held_of s)) (start_fits (held_of s) k q) (is_right (length a) s k p).room
    go true false p q = refl
    go false y p q = refl

call_length : (c : Call) (d : Left) → length (call c d).arena ≡ length d.arena
call_length (adding k ws) d = add_length d.arena d.state k ws
call_length (finding k) d = refl
call_length (dropping k) d = drop_length d.arena d.state k

pub calls_length : (cs : List Call) (d : Left) → length (calls cs d).arena ≡ length d.arena
calls_length [] d = refl
calls_length (c ∷ cs) d = calls_length cs (call c d) ∙ call_length c d

-- ---- any list of calls
call_good : (c : Call) (d : Left) → Good d → Good (call c d)
call_good (adding k ws) d g = add_good d g k ws
call_good (finding k) d g = g
call_good (dropping k) d g = drop_good d g k

calls_good : (cs : List Call) (d : Left) → Good d → Good (calls cs d)
calls_good [] d g = g
calls_good (c ∷ cs) d g = calls_good cs (call c d) (call_good c d g)

begun_good : (a : List Float) → length a ≤ 394752 → Good (begun a)
unfolding single is_held sum_over
begun_good a h = good_of a [] (λ k. none) refl (omega arith) h (λ k. refl)

after_good : (a : List Float) (cs : List Call) → length a ≤ 394752 → Good (calls cs (begun a))
after_good a cs h = calls_good cs (begun a) (begun_good a h)

-- what the calls left is lent right, whichever kind is asked for
lent_on : (d : Left) → Good d → (k : ℕ) → k < 17 → lent_right (length d.arena) d.state k ≡ true
lent_on d g k h = right_is (length d.arena) d.state k (record { kind = h; arena = g.small; count = g.count; once = g.once; room = g.room; behind = g.behind })

pub lent_after : (a : List Float) (cs : List Call) → length a ≤ 394752 → (k : ℕ) → k < 17 → lent_right (length (calls cs (begun a)).arena) (calls cs (begun a)).state k ≡ true
lent_after a cs h = lent_on (calls cs (begun a)) (after_good a cs h)

-- what is looked up is what was noted
seen_noted : (d : Left) → Good d → (k : ℕ) → seen d k ≡ d.noted k
unfolding find_answer shown
seen_noted d g k = ⊎_elim inside outside (side k 17) ∙ sym (g.told k)
  where
    by : Result Part ShortError → Option (List Float)
    by r = with_done r (part_with r (part_in d.arena (held_of d.state) k))

    answer : Bool → Result Part ShortError
    answer b = cond b (cond (is_held (held_of d.state) k) (Ok (part_at (start_in (held_of d.state) k) (places_of k))) (Err Gone)) (Err Lent)

    inside : k < 17 → seen d k ≡ held_part d.arena (held_of d.state) k
    inside h = ap (λ (b : Bool). by (answer b)) (lent_on d g k h) ∙ go (is_held (held_of d.state) k)
      where
        go : (b : Bool) → by (cond b (Ok (part_at (start_in (held_of d.state) k) (places_of k))) (Err Gone)) ≡ cond b (some (part_in d.arena (held_of d.state) k)) none
        go true = refl
        go false = refl

    outside : 17 ≤ k → seen d k ≡ held_part d.arena (held_of d.state) k
    outside h =
        ap (λ (b : Bool). by (answer b)) (sym (no_kind (length d.arena) d.state k h))
        ∙ sym (part_away d.arena (held_of d.state) k (away (is_held (held_of d.state) k) refl))
      where
        away : (b : Bool) → is_held (held_of d.state) k ≡ b → b ≡ false
        away true e = let i = held_small (held_of d.state) k g.once e in absurd (omega arith)
        away false e = refl

-- after any list of calls each kind shows the very weights that it was added with, if it was and was not dropped since, and nothing otherwise
pub shown_as_added : (a : List Float) (cs : List Call) → length a ≤ 394752 → (k : ℕ) → seen (calls cs (begun a)) k ≡ (calls cs (begun a)).noted k
shown_as_added a cs h = seen_noted (calls cs (begun a)) (after_good a cs h)

-- a kind is held exactly where it is noted
held_noted : (d : Left) → Good d → (k : ℕ) → is_noted (d.noted k) ≡ is_held (held_of d.state) k
held_noted d g k = ap is_noted (g.told k) ∙ known (is_held (held_of d.state) k) (part_in d.arena (held_of d.state) k)
  where
    known : (b : Bool) (p : List Float) → is_noted (cond b (some p) none) ≡ b
    known true p = refl
    known false p = refl

places_noted : (d : Left) → Good d → places_in (held_of d.state) ≡ noted_places d
places_noted d g =
    sum_is places_of (held_of d.state) g.once
    ∙ same_below (λ k. cond (is_held (held_of d.state) k) (places_of k) 0) (λ k. cond (is_noted (d.noted k)) (places_of k) 0) 17
    (λ k h. ap (λ (b : Bool). cond b (places_of k) 0) (sym (held_noted d g k)))

-- the places in use are the sum of 3 x width x height over the kinds added and not dropped since
pub places_in_use : (a : List Float) (cs : List Call) → length a ≤ 394752 → places_in (held_of (calls cs (begun a)).state) ≡ noted_places (calls cs (begun a))
places_in_use a cs h = places_noted (calls cs (begun a)) (after_good a cs h)

-- ---- each refusal, exactly when
module _ (n : ℕ) (s : State) (k : ℕ) where
  module _ (m : ℕ) where
    -- whether each test passes, and what they say together
    tests : (x y z : Bool) → (eqb m (places_of k) && lent_right n s k) ≡ x → is_held (held_of s) k ≡ y → ltb (n - places_in (held_of s)) (places_of k) ≡ z
        → add_answer n s k m ≡ cond x (cond y (Err Held) (cond z (Err Full) (Ok (part_at (places_in (held_of s)) (places_of k))))) (Err Lent)
    unfolding add_answer
    tests x y z p q r = rw (p, q, r)

    passes : (eqb m (places_of k) && lent_right n s k) ≡ true → AddRight n s k m
    passes p = (eqb-true m (places_of k) (left (eqb m (places_of k)) (lent_right n s k) p), right (eqb m (places_of k)) (lent_right n s k) p)

    pub held_exactly : (short_reply (add_answer n s k m) ≡ 17 ∷ []) ↔ (AddRight n s k m × (is_held (held_of s) k ≡ true))
    held_exactly = (
      go (eqb m (places_of k) && lent_right n s k) (is_held (held_of s) k) (ltb (n - places_in (held_of s)) (places_of k)) refl refl refl,
      λ ((l, e), h). ap short_reply (sym (add_held n s k m l e h)),
    )
      where
        go : (x y z : Bool) → (eqb m (places_of k) && lent_right n s k) ≡ x → is_held (held_of s) k ≡ y → ltb (n - places_in (held_of s)) (places_of k) ≡ z
            → short_reply (add_answer n s k m) ≡ 17 ∷ [] → AddRight n s k m × (is_held (held_of s) k ≡ true)
        go true true z p q r e = (passes p, q)
        go true false true p q r e = absurd (differs 13 17 [] [] refl (sym (ap short_reply (tests true false true p q r)) ∙ e))
        go true false false p q r e = absurd (differs 0 17 _ [] refl (sym (ap short_reply (tests true false false p q r)) ∙ e))
        go false y z p q r e = absurd (differs 1 17 [] [] refl (sym (ap short_reply (tests false y z p q r)) ∙ e))

    pub full_exactly : (short_reply (add_answer n s k m) ≡ 13 ∷ []) ↔ (AddRight n s k m × (is_held (held_of s) k ≡ false) × (n - places_in (held_of s) < places_of k))
    full_exactly = (
      go (eqb m (places_of k) && lent_right n s k) (is_held (held_of s) k) (ltb (n - places_in (held_of s)) (places_of k)) refl refl refl,
      λ ((l, e), h, f). ap short_reply (sym (add_full n s k m l e h f)),
    )
      where
        go : (x y z : Bool) → (eqb m (places_of k) && lent_right n s k) ≡ x → is_held (held_of s) k ≡ y → ltb (n - places_in (held_of s)) (places_of k) ≡ z
            → short_reply (add_answer n s k m) ≡ 13 ∷ [] → AddRight n s k m × (is_held (held_of s) k ≡ false) × (n - places_in (held_of s) < places_of k)
        go true true z p q r e = absurd (differs 17 13 [] [] refl (sym (ap short_reply (tests true true z p q r)) ∙ e))
        go true false true p q r e = (passes p, q, ltb-true (n - places_in (held_of s)) (places_of k) r)
        go true false false p q r e = absurd (differs 0 13 _ [] refl (sym (ap short_reply (tests true false false p q r)) ∙ e))
        go false y z p q r e = absurd (differs 1 13 [] [] refl (sym (ap short_reply (tests false y z p q r)) ∙ e))

  -- looking up, and dropping, which refuses as looking up does
  pub gone_exactly : (short_reply (find_answer n s k) ≡ 18 ∷ []) ↔ ((lent_right n s k ≡ true) × (is_held (held_of s) k ≡ false))
  unfolding find_answer
  gone_exactly = (go (lent_right n s k) (is_held (held_of s) k) refl refl, λ (e, h). rw (e, h))
    where
      go : (x y : Bool) → lent_right n s k ≡ x → is_held (held_of s) k ≡ y → short_reply (cond x (cond y (Ok (part_at (start_in (held_of s) k) (places_of k))) (Err Gone)) (Err Lent)) ≡ 18 ∷ []
          → (lent_right n s k ≡ true) × (is_held (held_of s) k ≡ false)
      go true true p q e = absurd (differs 0 18 (start_in (held_of s) k ∷ places_of k ∷ []) [] refl e)
      go true false p q e = (p, q)
      go false y p q e = absurd (differs 1 18 [] [] refl e)

  pub drop_gone_exactly : (drop_reply (drop_answer n s k) ≡ 18 ∷ []) ↔ ((lent_right n s k ≡ true) × (is_held (held_of s) k ≡ false))
  unfolding drop_answer
  drop_gone_exactly = (go (lent_right n s k) (is_held (held_of s) k) refl refl, λ (e, h). rw (e, h))
    where
      go : (x y : Bool) → lent_right n s k ≡ x → is_held (held_of s) k ≡ y → drop_reply (cond x (cond y (Ok tt) (Err Gone)) (Err Lent)) ≡ 18 ∷ [] → (lent_right n s k ≡ true) × (is_held (held_of s) k ≡ false)
      go true true p q e = absurd (differs 0 18 [] [] refl e)
      go true false p q e = (p, q)
      go false y p q e = absurd (differs 1 18 [] [] refl e)

-- ---- the same after any list of calls, by what was added and not dropped since
module _ (a : List Float) (cs : List Call) (h : length a ≤ 394752) (k : ℕ) (l : k < 17) where
  abbrev d : Left
  d = calls cs (begun a)

  good : Good d
  good = after_good a cs h

  -- HELD exactly if the kind was
  pub held_after : (short_reply (add_answer (length d.arena) d.state k (places_of k)) ≡ 17 ∷ []) ↔ (is_noted (d.noted k) ≡ true)
  held_after = (
    λ e. held_noted d good k ∙ ((held_exactly (length d.arena) d.state k (places_of k)).0 e).1,
    λ e. (held_exactly (length d.arena) d.state k (places_of k)).1 ((refl, lent_on d good k l), sym (held_noted d good k) ∙ e),
  )

  -- FULL exactly if it was not, and the free places are fewer than it needs: those of the arena less those of the kinds that were
  pub full_after : (short_reply (add_answer (length d.arena) d.state k (places_of k)) ≡ 13 ∷ []) ↔ ((is_noted (d.noted k) ≡ false) × (length a - noted_places d < places_of k))
  full_after =
      let p = places_noted d good in
      let n = calls_length cs (begun a) in (
        λ e. let f = (full_exactly (length d.arena) d.state k (places_of k)).0 e in let i = f.2 in (held_noted d good k ∙ f.1, omega arith),
        λ (e, f). (full_exactly (length d.arena) d.state k (places_of k)).1 ((refl, lent_on d good k l), sym (held_noted d good k) ∙ e, omega arith),
      )

  -- GONE exactly if it was not
  pub gone_after : (short_reply (find_answer (length d.arena) d.state k) ≡ 18 ∷ []) ↔ (is_noted (d.noted k) ≡ false)
  gone_after = (
    λ e. held_noted d good k ∙ ((gone_exactly (length d.arena) d.state k).0 e).1,
    λ e. (gone_exactly (length d.arena) d.state k).1 (lent_on d good k l, sym (held_noted d good k) ∙ e),
  )

-- ---- the places that a reply says are those of the weights
part_said : (r : Result Part ShortError) (f p : ℕ) → short_reply r ≡ 0 ∷ f ∷ p ∷ [] → Ok (part_at f p) ≡ r
part_said (Ok x) f p e = sym (ap (λ (l : List ℕ). Ok (part_at (get_or l 1 0) (get_or l 2 0))) e)
part_said (Err x) f p e = absurd (omega (arith, ap length e))

-- looking up: the part there is the one that is shown
pub found_there : (a : List Float) (s : State) (k f p : ℕ) → short_reply (find_answer (length a) s k) ≡ 0 ∷ f ∷ p ∷ [] → take p (drop f a) ≡ shown a s k
found_there a s k f p e =
    let i = part_said (find_answer (length a) s k) f p e in
    let g = find_says (length a) s k (part_at f p) i in
    ap (λ (n : ℕ). take p (drop n a)) g.first ∙ ap (λ (n : ℕ). take n (drop (start_in (held_of s) k) a)) g.places ∙ shows_part a s k (part_at f p) (sym i)

-- adding: the part there is then the weights
pub added_there : (a : List Float) (s : State) (k : ℕ) (ws : List Float) (f p : ℕ) → short_reply (add_answer (length a) s k (length ws)) ≡ 0 ∷ f ∷ p ∷ [] → take p (drop f (add_arena a s k ws)) ≡ ws
added_there a s k ws f p e =
    let i = part_said (add_answer (length a) s k (length ws)) f p e in
    let g = add_says (length a) s k (length ws) (part_at f p) i in
    ap (λ (l : List Float). take p (drop f l)) (sym (add_lays a s k ws (part_at f p) (sym i)))
    ∙ ap (λ (n : ℕ). take p (drop n (laid_at (places_in (held_of s)) ws a))) g.first
    ∙ ap (λ (n : ℕ). take n (drop (places_in (held_of s)) (laid_at (places_in (held_of s)) ws a))) (g.places ∙ sym g.weights)
    ∙ laid_at_lem a ws (places_in (held_of s)) g.right.room

-- ---- what a drop leaves behind the places in use: 0 where places came free, and the others as they were
pub freed_zero : (a : List Float) (s : State) (k : ℕ) → drop_reply (drop_answer (length a) s k) ≡ 0 ∷ []
    → drop (places_in (held_of (drop_state (length a) s k))) (drop_arena a s k) ≡ replicate (places_of k) (of_bits binary32 0) ++ drop (places_in (held_of s)) a
unfolding drop_answer drop_state drop_arena
freed_zero a s k = go (lent_right (length a) s k) (is_held (held_of s) k) refl refl
  where
    go : (x y : Bool) → lent_right (length a) s k ≡ x → is_held (held_of s) k ≡ y → drop_reply (cond x (cond y (Ok (tt {0})) (Err Gone)) (Err Lent)) ≡ 0 ∷ []
        → drop (places_in (held_of (leaves (cond x (cond y (Ok (tt {0})) (Err Gone)) (Err Lent)) (state_of (without (held_of s) k)) s))) (leaves (cond x (cond y (Ok (tt {0})) (Err Gone)) (Err Lent)) (closed_at (of_bits binary32 0) (start_in (held_of s) k) (places_of k) (places_in (held_of s)) a) a)
        ≡ replicate (places_of k) (of_bits binary32 0) ++ drop (places_in (held_of s)) a
    go true true p q e =
        let ks = held_of s in
        let r = is_right (length a) s k p in
        let w = places_without ks k r.once q in
        let i : places_in (without ks k) ≡ places_in ks - places_of k = omega arith in
        ap (λ (j : ℕ). drop j (closed_at (of_bits binary32 0) (start_in ks k) (places_of k) (places_in ks) a)) (ap places_in (take-append_seam (without ks k) (replicate (17 - length (without ks k)) 0)) ∙ i)
        ∙ closed_end a (of_bits binary32 0) (start_in ks k) (places_of k) (places_in ks) (start_fits ks k q) r.room
    go true false p q e = absurd (differs 18 0 [] [] refl e)
    go false y p q e = absurd (differs 1 0 [] [] refl e)

-- ---- an arena of no places: every kind is FULL, and none is held
some_places : (k : ℕ) → k < 17 → 0 < places_of k
some_places k l = ltb→lt 0 (places_of k) (at (λ i. ltb 0 (places_of i)) 17 (unfold places_of in tt) k l)

pub no_places : (k : ℕ) → k < 17 → (short_reply (add_answer 0 (state_of []) k (places_of k)) ≡ 13 ∷ []) × (short_reply (find_answer 0 (state_of []) k) ≡ 18 ∷ [])
unfolding sum_over sum_below
no_places k l = ((full_after [] [] (omega arith) k l).1 (refl, some_places k l), (gone_after [] [] (omega arith) k l).1 refl)
