-- What stands where after weights were laid in, and after a stretch was closed up. Assumes nothing.
use mathlib.Core.Path.{◌≡◌, refl, sym, ap, ◌∙◌}
use mathlib.Core.List.{List, ◌++◌, append_assoc}
use Prim.Native.Nat.{ℕ, ◌+◌, ◌-◌, ◌≤◌}
use native.Mathlib.Omega.{arith}
use lib.ListN.{length, take, drop, replicate, length-append, length-drop, length-replicate, take-append-drop}
use lib.Seq.{length-take-le, take-append-le, drop-append-le, drop-append-add, drop-drop, take_at, drop_at}
use Rattle.transform.proofs.PartLaws.{spliced_length}
use Rattle.slices.specs.Slices.{laid_at, moved_down, closed_at}

module _ {A : Type 0} where
  -- a part of the first u is what it was, whatever stands behind them
  part_within : (l x : List A) (s p u : ℕ) → s + p ≤ u → u ≤ length l → take p (drop s (take u l ++ x)) ≡ take p (drop s l)
  part_within l x s p u h g = before x ∙ sym (before (drop u l)) ∙ ap (λ (y : List A). take p (drop s y)) (take-append-drop u l)
    where
      before : (y : List A) → take p (drop s (take u l ++ y)) ≡ take p (drop s (take u l))
      before y =
          let e = length-take-le u l g in
          let d = length-drop s (take u l) in
          ap (take p) (drop-append-le s (take u l) y (omega arith)) ∙ take-append-le p (drop s (take u l)) y (omega arith)

  -- ---- weights laid in at u
  module _ (l ws : List A) (u : ℕ) where
    pub laid_at_lem : u ≤ length l → take (length ws) (drop u (laid_at u ws l)) ≡ ws
    laid_at_lem h =
        ap (take (length ws)) (drop_at (take u l) (ws ++ drop (u + length ws) l) u (length-take-le u l h))
        ∙ take_at ws (drop (u + length ws) l) (length ws) refl

    pub laid_before : (s p : ℕ) → s + p ≤ u → u ≤ length l → take p (drop s (laid_at u ws l)) ≡ take p (drop s l)
    laid_before s p h g = part_within l (ws ++ drop (u + length ws) l) s p u h g

    pub laid_at_length : u + length ws ≤ length l → length (laid_at u ws l) ≡ length l
    laid_at_length h = spliced_length u (u + length ws) ws l refl h

  -- ---- n places from f on closed up, in the first u
  module _ (l : List A) (z : A) (f n u : ℕ) (h : f + n ≤ u) (g : u ≤ length l) where
    pub down_length : length (take (u - (f + n)) (drop (f + n) l)) ≡ u - (f + n)
    down_length = length-take-le (u - (f + n)) (drop (f + n) l) (let d = length-drop (f + n) l in omega arith)

    pub moved_length : length (moved_down z f n u l) ≡ u - f
    moved_length =
        let a = length-append (take (u - (f + n)) (drop (f + n) l)) (replicate n z) in
        let r = length-replicate n z in
        let d = down_length in
        omega arith

    pub closed_length : length (closed_at z f n u l) ≡ length l
    closed_length = spliced_length f u (moved_down z f n u l) l (let m = moved_length in omega arith) g

    -- what ends before them stays
    pub closed_before : (s p : ℕ) → s + p ≤ f → take p (drop s (closed_at z f n u l)) ≡ take p (drop s l)
    closed_before s p i = part_within l _ s p f i (omega arith)

    -- what starts behind them moves down by n
    pub closed_behind : (s t p : ℕ) → f + n ≤ s → s + p ≤ u → t + n ≡ s → take p (drop t (closed_at z f n u l)) ≡ take p (drop s l)
    closed_behind s t p i j e =
        let o : t ≡ f + (t - f) = omega arith in
        let y : f + n + (t - f) ≡ s = omega arith in
        let d = length-drop (f + n) l in
        let down = take (u - (f + n)) (drop (f + n) l) in
        ap (λ (m : ℕ). take p (drop m (closed_at z f n u l))) (o ∙ ap (λ (m : ℕ). m + (t - f)) (sym (length-take-le f l (omega arith))))
        ∙ ap (take p) (drop-append-add (take f l) (moved_down z f n u l ++ drop u l) (t - f))
        ∙ ap (λ (r : List A). take p (drop (t - f) r)) (append_assoc down (replicate n z) (drop u l))
        ∙ part_within (drop (f + n) l) (replicate n z ++ drop u l) (t - f) p (u - (f + n)) (omega arith) (omega arith)
        ∙ ap (take p) (drop-drop (t - f) (f + n) l ∙ ap (λ (m : ℕ). drop m l) y)

    -- the places that come free have z, and those behind are as they were
    pub closed_end : drop (u - n) (closed_at z f n u l) ≡ replicate n z ++ drop u l
    closed_end =
        let down = take (u - (f + n)) (drop (f + n) l) in
        let j = down_length in
        let e = length-take-le f l (omega arith) in
        let a = length-append (take f l) down in
        ap (λ (r : List A). drop (u - n) (take f l ++ r)) (append_assoc down (replicate n z) (drop u l))
        ∙ ap (drop (u - n)) (sym (append_assoc (take f l) down (replicate n z ++ drop u l)))
        ∙ drop_at (take f l ++ down) (replicate n z ++ drop u l) (u - n) (omega arith)
