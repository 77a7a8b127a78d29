-- The answers, test by test, and what a replacement leaves. Assumes nothing.
use Rattle.std.proofs.Common.{Ok, Err, ◌≡◌, ℕ, ◌+◌, ◌-◌, ◌%◌, ◌^◌, ◌<◌, ◌≤◌, true, false, ◌&&◌, eqb, ltb, List, length, take, drop, refl, ap, ◌∙◌, arith, le-ltb, lt-ltb, eq-eqb, ne_eqb, eqb-true, le-leb}
use borrow.Author.Tests.{lt-leb}
use lib.Ieee.{Float}
use Rattle.transform.specs.Kinds.{places_of, start_of, part, spliced, laid}
use Rattle.transform.proofs.Chain.{here, next, left, right}
use Rattle.transform.proofs.Laws.{end_le}
use Rattle.transform.proofs.PartLaws.{cut, cut_at}
use Rattle.slices.specs.Slices.{laid_at, put_leaves}
use Rattle.slices.proofs.Laws.{put_fits}
use Rattle.total.specs.Total.{lent, total_from, total_of, total_answer, part_right, replaced, replace_answer, replace_arena}

-- ---- counting a stretch
module _ (a : List Float) (first count : ℕ) where
  pub other_arena : (length a ≡ 394752 → ⊥) → Err lent ≡ total_answer a first count
  unfolding total_answer
  other_arena e = rw (ne_eqb (length a) 394752 e)

  pub outside : length a ≡ 394752 → 394752 < first + count → Err lent ≡ total_answer a first count
  unfolding total_answer
  outside e h = rw (eq-eqb (length a) 394752 e, lt-leb (first + count) 394752 h)

  pub counted : (t : ℕ) → length a ≡ 394752 → first + count ≤ 394752 → t ≡ total_of a first count → Ok t ≡ total_answer a first count
  unfolding total_answer
  counted t e h f = rw (eq-eqb (length a) 394752 e, le-leb (first + count) 394752 h) (ap Ok f)

  -- counted in the part that is cut out
  pub cut_counted : (t : ℕ) → length a ≡ 394752 → first + count ≤ 394752 → t ≡ total_from first (take (first + count - first) (drop first a)) → Ok t ≡ total_answer a first count
  cut_counted t e h f = counted t e h (f ∙ ap (total_from first) (cut_at first count a))

-- ---- what a replacement is lent
module _ (n k m : ℕ) where
  pub right_arena : (n ≡ 394752 → ⊥) → eqb n 394752 ≡ part_right n k m
  unfolding part_right
  right_arena h = let e = ne_eqb n 394752 h in e ∙ here (eqb n 394752) _ e

  pub right_kind : n ≡ 394752 → 17 ≤ k → ltb k 17 ≡ part_right n k m
  unfolding part_right
  right_kind h g = let e = le-ltb k 17 g in next (eqb n 394752) _ _ (eq-eqb n 394752 h) (e ∙ here (ltb k 17) _ e)

  pub right_weights : (p : ℕ) → n ≡ 394752 → k < 17 → p ≡ places_of k → eqb m p ≡ part_right n k m
  unfolding part_right
  right_weights p h g e = next (eqb n 394752) _ _ (eq-eqb n 394752 h) (next (ltb k 17) _ _ (lt-ltb k 17 g) (ap (eqb m) e))

  -- lent right, and the kind's start at hand
  pub record Placed (st : ℕ) : Type 0 where
    pub arena : n ≡ 394752
    pub weights : m ≡ places_of k
    pub start : st ≡ start_of k
    pub ends : st + m ≤ 394752

  pub placed : (st : ℕ) → part_right n k m ≡ true → st ≡ start_of k → Placed st
  unfolding part_right
  placed st e f =
      let w = eqb-true m (places_of k) (right (ltb k 17) (eqb m (places_of k)) (right (eqb n 394752) (ltb k 17 && eqb m (places_of k)) e)) in
      record {
        arena = eqb-true n 394752 (left (eqb n 394752) (ltb k 17 && eqb m (places_of k)) e);
        weights = w;
        start = f;
        ends = (let h = end_le k in omega arith);
      }

-- the same, a fact at a time
pub right_ends : (n k m st : ℕ) → part_right n k m ≡ true → st ≡ start_of k → st + m ≤ n
right_ends n k m st e f = let p = placed n k m st e f in omega (arith, p.ends, p.arena)

pub right_size : (n k m : ℕ) → part_right n k m ≡ true → n ≡ 394752
right_size n k m e = (placed n k m (start_of k) e refl).arena

-- ---- a replacement
module _ (a : List Float) (k : ℕ) (ws : List Float) where
  pub replace_lent : (t : ℕ) → part_right (length a) k (length ws) ≡ false → Err lent ≡ replace_answer a t k ws
  unfolding replace_answer
  replace_lent t e = rw e

  pub arena_kept : part_right (length a) k (length ws) ≡ false → a ≡ replace_arena a k ws
  unfolding replace_arena
  arena_kept e = rw e

  pub replace_done : (t r : ℕ) → part_right (length a) k (length ws) ≡ true → r ≡ replaced t k (part k a) ws → Ok r ≡ replace_answer a t k ws
  unfolding replace_answer
  replace_done t r e h = rw e (ap Ok h)

  pub arena_laid : part_right (length a) k (length ws) ≡ true → laid k ws a ≡ replace_arena a k ws
  unfolding replace_arena
  arena_laid e = rw e

  -- the new total, from the two that were counted at the kind's start
  pub replace_counts : (t st old new : ℕ) → part_right (length a) k (length ws) ≡ true → st ≡ start_of k → old ≡ total_from st (take (st + length ws - st) (drop st a)) → new ≡ total_from st ws
      → Ok (((t + (2 ^ 64 - old)) % 2 ^ 64 + new) % 2 ^ 64) ≡ replace_answer a t k ws
  unfolding replaced
  replace_counts t st old new e f x y =
      let w = (placed (length a) k (length ws) st e f).weights in
      let i : old ≡ total_from (start_of k) (part k a) = x ∙ ap (total_from st) (cut k st (length ws) a f w) ∙ ap (λ (n : ℕ). total_from n (part k a)) f in
      let j : new ≡ total_from (start_of k) ws = y ∙ ap (λ (n : ℕ). total_from n ws) f in
      replace_done t _ e (ap (λ (n : ℕ). ((t + (2 ^ 64 - n)) % 2 ^ 64 + new) % 2 ^ 64) i ∙ ap (λ (n : ℕ). ((t + (2 ^ 64 - total_from (start_of k) (part k a))) % 2 ^ 64 + n) % 2 ^ 64) j)

  -- the weights put at the kind's start are its part laid in
  pub put_is : (st : ℕ) (y : List Float) → part_right (length a) k (length ws) ≡ true → st ≡ start_of k → y ≡ put_leaves a st ws → y ≡ replace_arena a k ws
  put_is st y e s f =
      let p = placed (length a) k (length ws) st e s in
      f
      ∙ put_fits a st ws (omega (arith, p.ends, p.arena))
      ∙ ap (λ (n : ℕ). laid_at n ws a) s
      ∙ ap (λ (n : ℕ). spliced (start_of k) (start_of k + n) ws a) p.weights
      ∙ arena_laid e
