-- LENT, test by test, and what a call that is lent right knows. Assumes nothing.
use mathlib.Core.Path.{◌≡◌, sym, ap, ◌∙◌}
use mathlib.Core.Bool.{Bool, true, false, ◌&&◌, and-false}
use mathlib.Core.List.{List, map}
use Prim.Native.Nat.{ℕ, ◌-◌, ◌≤◌, ◌<◌}
use native.Mathlib.Omega.{arith}
use borrow.Author.Tests.{lt-ltb, le-ltb, le-leb, lt-leb, ltb-true, leb-true}
use lib.Dec.{ltb, leb}
use lib.ListN.{length, take, drop, length-map}
use lib.Seq.{length-take-le}
use Rattle.short_arena.specs.declared.held.State.{State}
use Rattle.short_arena.specs.Held.{held_of, single, places_in}
use Rattle.transform.specs.Zeros.{all_zero}
use Rattle.short_arena.specs.Short.{lent_right}
use Rattle.transform.proofs.Chain.{here, left, right}
use Rattle.short_arena.proofs.States.{rest_is}

-- a struct's array has its length
pub seventeen : (l : List ℕ) → length (map (λ v. v) l) ≡ 17 → length l ≡ 17
seventeen l e = sym (length-map l (λ v. v)) ∙ e

-- as many are held as are counted
pub held_count : (s : State) → length s.kinds ≡ 17 → s.count ≤ 17 → length (held_of s) ≡ s.count
held_count s e h = length-take-le s.count s.kinds (omega arith)

module _ (n : ℕ) (s : State) (k : ℕ) where
  -- whatever the tests behind it say
  pub no_kind : 17 ≤ k → false ≡ lent_right n s k
  unfolding lent_right
  no_kind h = here (ltb k 17) _ (le-ltb k 17 h)

  pub no_arena : 394752 < n → false ≡ lent_right n s k
  unfolding lent_right
  no_arena h = rw (lt-leb n 394752 h) (sym (and-false (ltb k 17)))

  pub no_count : 17 < s.count → false ≡ lent_right n s k
  unfolding lent_right
  no_count h = rw (lt-leb s.count 17 h) (sym (ap (λ (b : Bool). ltb k 17 && b) (and-false (leb n 394752)) ∙ and-false (ltb k 17)))

  -- by the kinds held, where those pass
  module _ (a : k < 17) (b : n ≤ 394752) (d : s.count ≤ 17) where
    by_kinds : lent_right n s k ≡ (single (held_of s) && (leb (places_in (held_of s)) n && all_zero (drop s.count s.kinds)))
    unfolding lent_right
    by_kinds = rw (lt-ltb k 17 a, le-leb n 394752 b, le-leb s.count 17 d)

    pub not_single : single (held_of s) ≡ false → lent_right n s k ≡ false
    not_single e = by_kinds ∙ ap (λ (x : Bool). x && (leb (places_in (held_of s)) n && all_zero (drop s.count s.kinds))) e

    module _ (e : single (held_of s) ≡ true) where
      pub no_room : n < places_in (held_of s) → lent_right n s k ≡ false
      no_room h = by_kinds ∙ rw (e, lt-leb (places_in (held_of s)) n h)

      pub by_zeros : places_in (held_of s) ≤ n → length s.kinds ≡ 17 → (r : Bool) → r ≡ all_zero (take (17 - s.count) (drop s.count s.kinds)) → r ≡ lent_right n s k
      by_zeros h l r f = f ∙ ap all_zero (rest_is s.count s.kinds l) ∙ sym (by_kinds ∙ rw (e, le-leb (places_in (held_of s)) n h))

pub record Right (n : ℕ) (s : State) (k : ℕ) : Type 0 where
  pub kind : k < 17
  pub arena : n ≤ 394752
  pub count : s.count ≤ 17
  pub once : single (held_of s) ≡ true
  pub room : places_in (held_of s) ≤ n
  pub behind : all_zero (drop s.count s.kinds) ≡ true

pub is_right : (n : ℕ) (s : State) (k : ℕ) → lent_right n s k ≡ true → Right n s k
unfolding lent_right
is_right n s k e =
    let e1 = right (ltb k 17) _ e in
    let e2 = right (leb n 394752) _ e1 in
    let e3 = right (leb s.count 17) _ e2 in
    let e4 = right (single (held_of s)) _ e3 in
    record {
      kind = ltb-true k 17 (left (ltb k 17) _ e);
      arena = leb-true n 394752 (left (leb n 394752) _ e1);
      count = leb-true s.count 17 (left (leb s.count 17) _ e2);
      once = left (single (held_of s)) _ e3;
      room = leb-true (places_in (held_of s)) n (left (leb (places_in (held_of s)) n) _ e4);
      behind = right (leb (places_in (held_of s)) n) _ e4;
    }

-- and the other way round
pub right_is : (n : ℕ) (s : State) (k : ℕ) → Right n s k → lent_right n s k ≡ true
unfolding lent_right
right_is n s k r =
    rw (lt-ltb k 17 r.kind, le-leb n 394752 r.arena, le-leb s.count 17 r.count, r.once, le-leb (places_in (held_of s)) n r.room, r.behind)

-- a fact at a time
pub lent_counts : (n : ℕ) (s : State) (k : ℕ) → lent_right n s k ≡ true → s.count ≤ 17
lent_counts n s k e = (is_right n s k e).count

pub lent_room : (n : ℕ) (s : State) (k : ℕ) → lent_right n s k ≡ true → places_in (held_of s) ≤ n
lent_room n s k e = (is_right n s k e).room
