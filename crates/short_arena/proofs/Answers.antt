-- The answers, test by test, what they say, and what a call leaves. Assumes nothing.
use Rattle.std.proofs.Common.{Result, Ok, Err, Option, Some, None, ◌≡◌, ℕ, ◌+◌, ◌-◌, ◌≤◌, ◌<◌, Bool, true, false, cond, ◌&&◌, ◌||◌, eqb, ltb, List, [], ◌∷◌, ◌++◌, length, take, drop, refl, sym, ap, ◌∙◌, true≢false, arith, eq-eqb, ne_eqb, lt-ltb, le-ltb, eqb-true}
use mathlib.Core.Bool.{and-false}
use borrow.Author.Tests.{ltb-false}
use Rattle.std.specs.List.{list_any}
use lib.Ieee.{Float, of_bits, binary32}
use Rattle.transform.specs.Kinds.{places_of}
use Rattle.transform.specs.Zeros.{all_zero}
use Rattle.transform.proofs.Chain.{left, right}
use Rattle.transform.proofs.PartLaws.{cut_at}
use Rattle.slices.specs.Slices.{laid_at, closed_at, put_leaves, close_leaves}
use Rattle.slices.proofs.Laws.{put_fits, close_fits}
use Rattle.short_arena.specs.declared.held.State.{State}
use Rattle.short_arena.specs.declared.arena.Part.{Part}
use Rattle.short_arena.specs.declared.arena.ShortError.{ShortError}
use Rattle.short_arena.specs.declared.arena.ShortError.TheVariants.{Lent, Held, Full, Gone}
use Rattle.short_arena.specs.Held.{held_of, state_of, is_held, sum_over, places_in, start_in, without}
use Rattle.short_arena.specs.Short.{part_at, lent_right, add_answer, add_state, add_arena, find_answer, drop_answer, drop_state, drop_arena, part_in, shown}
use Rattle.short_arena.proofs.Lending.{Right, is_right, held_count}
use Rattle.short_arena.proofs.Sums.{room_left}
use Rattle.short_arena.proofs.Turns.{held_any}

-- a kind that is held ends within the places in use
pub start_fits : (ks : List ℕ) (k : ℕ) → is_held ks k ≡ true → start_in ks k + places_of k ≤ places_in ks
unfolding is_held start_in sum_over
start_fits [] k e = absurd (true≢false (sym e))
start_fits (j ∷ ks) k e = go (eqb j k) refl e (start_fits ks k)
  where
    go : (b : Bool) → eqb j k ≡ b → (b || is_held ks k) ≡ true → (is_held ks k ≡ true → start_in ks k + places_of k ≤ places_in ks) → cond b 0 (places_of j + start_in ks k) + places_of k ≤ places_of j + places_in ks
    go true q f r = let i : places_of j ≡ places_of k = ap places_of (eqb-true j k q) in omega arith
    go false q f r = let i = r f in omega arith

-- ---- each answer, by its tests
module _ (n : ℕ) (s : State) (k : ℕ) where
  pub find_lent : lent_right n s k ≡ false → Err Lent ≡ find_answer n s k
  unfolding find_answer
  find_lent e = rw e

  -- by where the kind starts, if it is held
  module _ (e : lent_right n s k ≡ true) (r : Option ℕ) (g : r ≡ cond (is_held (held_of s) k) (Some (start_in (held_of s) k)) None) where
    abbrev starts : Bool → Option ℕ
    starts b = cond b (Some (start_in (held_of s) k)) None

    abbrev says : Bool → Result Part ShortError
    says b = cond b (Ok (part_at (start_in (held_of s) k) (places_of k))) (Err Gone)

    pub find_gone : r ≡ None → Err Gone ≡ find_answer n s k
    unfolding find_answer
    find_gone h = rw e (go (is_held (held_of s) k) (sym h ∙ g))
      where
        go : (b : Bool) → None ≡ starts b → Err Gone ≡ says b
        go true i = cc
        go false i = refl

    pub find_part : (f p : ℕ) → r ≡ Some f → p ≡ places_of k → Ok (part_at f p) ≡ find_answer n s k
    unfolding find_answer
    find_part f p h j = rw (e, j) (go (is_held (held_of s) k) (sym h ∙ g))
      where
        go : (b : Bool) → Some f ≡ starts b → Ok (part_at f (places_of k)) ≡ says b
        go true i = let x : f ≡ start_in (held_of s) k = cc in rw x
        go false i = cc

  module _ (m : ℕ) where
    pub add_long : (m ≡ places_of k → ⊥) → Err Lent ≡ add_answer n s k m
    unfolding add_answer
    add_long e = rw (ne_eqb m (places_of k) e)

    pub add_lent : lent_right n s k ≡ false → Err Lent ≡ add_answer n s k m
    unfolding add_answer
    add_lent e = rw (e, and-false (eqb m (places_of k)))

    module _ (l : m ≡ places_of k) (e : lent_right n s k ≡ true) where
      pub add_held : is_held (held_of s) k ≡ true → Err Held ≡ add_answer n s k m
      unfolding add_answer
      add_held h = rw (eq-eqb m (places_of k) l, e, h)

      module _ (h : is_held (held_of s) k ≡ false) where
        pub add_full : n - places_in (held_of s) < places_of k → Err Full ≡ add_answer n s k m
        unfolding add_answer
        add_full f = rw (eq-eqb m (places_of k) l, e, h, lt-ltb (n - places_in (held_of s)) (places_of k) f)

        pub add_part : places_of k ≤ n - places_in (held_of s) → Ok (part_at (places_in (held_of s)) (places_of k)) ≡ add_answer n s k m
        unfolding add_answer
        add_part g = rw (eq-eqb m (places_of k) l, e, h, le-ltb (n - places_in (held_of s)) (places_of k) g)

-- the same from what the code has at hand: whether the kind is among those held (r), where they end (f), and its places (p)
module _ (n : ℕ) (s : State) (k m p : ℕ) (q : p ≡ places_of k) (l : m ≡ p) (e : lent_right n s k ≡ true) (r : Bool) (g : r ≡ list_any (λ j. eqb j k) (held_of s)) where
  pub judge_held : r ≡ true → Err Held ≡ add_answer n s k m
  judge_held h = add_held n s k m (l ∙ q) e (sym (g ∙ held_any (held_of s) k) ∙ h)

  module _ (f : ℕ) (i : f ≡ places_in (held_of s)) (h : r ≡ false) where
    away : is_held (held_of s) k ≡ false
    away = sym (g ∙ held_any (held_of s) k) ∙ h

    pub judge_full : n - f < p → Err Full ≡ add_answer n s k m
    judge_full j = add_full n s k m (l ∙ q) e away (omega arith)

    pub judge_part : p ≤ n - f → Ok (part_at f p) ≡ add_answer n s k m
    judge_part j = rw (i, q) (add_part n s k m (l ∙ q) e away (omega arith))

-- ---- what an answer says
-- looking up, with DONE
pub record Found (n : ℕ) (s : State) (k f p : ℕ) : Type 0 where
  pub lent : lent_right n s k ≡ true
  pub held : is_held (held_of s) k ≡ true
  pub first : f ≡ start_in (held_of s) k
  pub places : p ≡ places_of k
  pub right : Right n s k
  pub ends : f + p ≤ places_in (held_of s)

pub find_says : (n : ℕ) (s : State) (k : ℕ) (p : Part) → Ok p ≡ find_answer n s k → Found n s k p.first p.length
unfolding find_answer
find_says n s k p = go (lent_right n s k) (is_held (held_of s) k) refl refl
  where
    go : (x y : Bool) → lent_right n s k ≡ x → is_held (held_of s) k ≡ y → Ok p ≡ cond x (cond y (Ok (part_at (start_in (held_of s) k) (places_of k))) (Err Gone)) (Err Lent) → Found n s k p.first p.length
    go true true q r e =
        let i : p ≡ part_at (start_in (held_of s) k) (places_of k) = cc in
        let a : p.first ≡ start_in (held_of s) k = ap (λ (x : Part). x.first) i in
        let b : p.length ≡ places_of k = ap (λ (x : Part). x.length) i in
        let h = start_fits (held_of s) k r in
        record { lent = q; held = r; first = a; places = b; right = is_right n s k q; ends = omega arith }
    go true false q r e = cc
    go false y q r e = cc

-- adding, with DONE
pub record Added (n : ℕ) (s : State) (k m f p : ℕ) : Type 0 where
  pub weights : m ≡ places_of k
  pub away : is_held (held_of s) k ≡ false
  pub room : places_of k ≤ n - places_in (held_of s)
  pub first : f ≡ places_in (held_of s)
  pub places : p ≡ places_of k
  pub right : Right n s k

pub add_says : (n : ℕ) (s : State) (k m : ℕ) (p : Part) → Ok p ≡ add_answer n s k m → Added n s k m p.first p.length
unfolding add_answer
add_says n s k m p = go (eqb m (places_of k) && lent_right n s k) (is_held (held_of s) k) (ltb (n - places_in (held_of s)) (places_of k)) refl refl refl
  where
    go : (x y z : Bool) → (eqb m (places_of k) && lent_right n s k) ≡ x → is_held (held_of s) k ≡ y → ltb (n - places_in (held_of s)) (places_of k) ≡ z
        → Ok p ≡ cond x (cond y (Err Held) (cond z (Err Full) (Ok (part_at (places_in (held_of s)) (places_of k))))) (Err Lent) → Added n s k m p.first p.length
    go true false false a b c e =
        let i : p ≡ part_at (places_in (held_of s)) (places_of k) = cc in
        record {
          weights = eqb-true m (places_of k) (left (eqb m (places_of k)) (lent_right n s k) a);
          away = b;
          room = ltb-false (n - places_in (held_of s)) (places_of k) c;
          first = ap (λ (x : Part). x.first) i;
          places = ap (λ (x : Part). x.length) i;
          right = is_right n s k (right (eqb m (places_of k)) (lent_right n s k) a);
        }
    go true true z a b c e = cc
    go true false true a b c e = cc
    go false y z a b c e = cc

-- what is known of an answer that names no part: it is a refusal
abbrev pub NoPart : Result Part ShortError → Type 0
NoPart r = (p : Part) → r ≡ Ok p → ⊥

pub no_part : (r : Result Part ShortError) → NoPart r → (e : ShortError) × (r ≡ Err e)
no_part (Ok p) t = absurd (t p refl)
no_part (Err e) t = (e, refl)

-- ---- what adding leaves
module _ (n : ℕ) (s : State) (k m : ℕ) where
  pub add_keeps_state : (e : ShortError) → add_answer n s k m ≡ Err e → s ≡ add_state n s k m
  unfolding add_state
  add_keeps_state e h = rw h

  module _ (p : Part) (h : add_answer n s k m ≡ Ok p) where
    -- there is a place for the kind, and 0 behind those held
    pub add_fits : length s.kinds ≡ 17 → s.count < 17
    add_fits e =
        let g = add_says n s k m p (sym h) in
        let c = held_count s e g.right.count in
        omega (arith, room_left (held_of s) k g.right.once g.right.kind g.away)

    pub add_behind : all_zero (drop s.count s.kinds) ≡ true
    add_behind = (add_says n s k m p (sym h)).right.behind

    pub add_more : (x : State) → x ≡ state_of (held_of s ++ k ∷ []) → x ≡ add_state n s k m
    unfolding add_state
    add_more x e = e ∙ rw h

module _ (a : List Float) (s : State) (k : ℕ) (ws : List Float) where
  pub add_keeps : (e : ShortError) → add_answer (length a) s k (length ws) ≡ Err e → a ≡ add_arena a s k ws
  unfolding add_arena
  add_keeps e h = rw h

  module _ (p : Part) (h : add_answer (length a) s k (length ws) ≡ Ok p) where
    pub add_lays : laid_at (places_in (held_of s)) ws a ≡ add_arena a s k ws
    unfolding add_arena
    add_lays = rw h

    pub add_puts : put_leaves a p.first ws ≡ add_arena a s k ws
    add_puts =
        let g = add_says (length a) s k (length ws) p (sym h) in
        put_fits a p.first ws (omega (arith, g.first, g.room, g.weights, g.right.room)) ∙ ap (λ (i : ℕ). laid_at i ws a) g.first ∙ add_lays

-- ---- what dropping answers and leaves, by what looking up says
module _ (n : ℕ) (s : State) (k : ℕ) where
  pub drop_refused : (e : ShortError) → find_answer n s k ≡ Err e → Err e ≡ drop_answer n s k
  unfolding find_answer drop_answer
  drop_refused e = go (lent_right n s k) (is_held (held_of s) k)
    where
      go : (x y : Bool) → cond x (cond y (Ok (part_at (start_in (held_of s) k) (places_of k))) (Err Gone)) (Err Lent) ≡ Err e → ◌≡◌ {A = Result (Unit {0}) ShortError} (Err e) (cond x (cond y (Ok tt) (Err Gone)) (Err Lent))
      go true true h = cc
      go true false h = cc
      go false y h = cc

  pub drop_done : (p : Part) → find_answer n s k ≡ Ok p → Ok tt ≡ drop_answer n s k
  unfolding drop_answer
  drop_done p h = let g = find_says n s k p (sym h) in rw (g.lent, g.held)

  pub drop_keeps_state : (e : ShortError) → find_answer n s k ≡ Err e → s ≡ drop_state n s k
  unfolding drop_state
  drop_keeps_state e h = rw (← drop_refused e h)

  module _ (p : Part) (h : find_answer n s k ≡ Ok p) where
    pub drop_less : (x : State) → x ≡ state_of (without (held_of s) k) → x ≡ drop_state n s k
    unfolding drop_state
    drop_less x e = e ∙ rw (← drop_done p h)

    pub drop_counts : s.count ≤ 17
    drop_counts = (find_says n s k p (sym h)).right.count

module _ (a : List Float) (s : State) (k : ℕ) where
  pub drop_keeps : (e : ShortError) → find_answer (length a) s k ≡ Err e → a ≡ drop_arena a s k
  unfolding drop_arena
  drop_keeps e h = rw (← drop_refused (length a) s k e h)

  module _ (p : Part) (h : find_answer (length a) s k ≡ Ok p) where
    pub drop_closes : close_leaves a p.first p.length (places_in (held_of s)) ≡ drop_arena a s k
    unfolding drop_arena
    drop_closes =
        let g = find_says (length a) s k p (sym h) in
        let z = of_bits binary32 0 in
        close_fits a p.first p.length (places_in (held_of s)) g.ends g.right.room
        ∙ ap (λ (i : ℕ). closed_at z i p.length (places_in (held_of s)) a) g.first
        ∙ ap (λ (i : ℕ). closed_at z (start_in (held_of s) k) i (places_in (held_of s)) a) g.places
        ∙ rw (← drop_done (length a) s k p h)

  -- what looking up shows
  pub shows_none : (e : ShortError) → find_answer (length a) s k ≡ Err e → [] ≡ shown a s k
  unfolding shown
  shows_none e h = rw h

  module _ (p : Part) (h : find_answer (length a) s k ≡ Ok p) where
    pub shows_part : part_in a (held_of s) k ≡ shown a s k
    unfolding shown
    shows_part = rw h

    -- the part lies in the arena, which is short
    pub shows_ends : p.first + p.length ≤ length a
    shows_ends = let g = find_says (length a) s k p (sym h) in omega (arith, g.ends, g.right.room)

    pub shows_cut : take (p.first + p.length - p.first) (drop p.first a) ≡ shown a s k
    shows_cut =
        let g = find_says (length a) s k p (sym h) in
        cut_at p.first p.length a
        ∙ ap (λ (m : ℕ). take p.length (drop m a)) g.first
        ∙ ap (λ (m : ℕ). take m (drop (start_in (held_of s) k) a)) g.places
        ∙ shows_part
