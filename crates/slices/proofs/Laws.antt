-- What laying in and closing up leave: nothing new where it doesn't fit, and else what the library's copies and fill write. Assumes nothing.
use Rattle.std.proofs.Common.{◌≡◌, ℕ, ◌+◌, ◌-◌, ◌≤◌, ◌<◌, Bool, cond, ◌&&◌, List, ◌++◌, length, take, drop, replicate, sym, refl, ap, ◌∙◌, arith, le-leb, length-drop, length-append, length-take-le}
use mathlib.Core.Bool.{and-false}
use lib.Dec.{leb}
use borrow.Author.Tests.{lt-leb}
use borrow.Rule.Slice.PartMut.{put_mid}
use lib.Ieee.{Float, of_bits, binary32}
use lib.Seq.{paste}
use Rattle.std.proofs.lemmas.List.{length-replicate, take-take}
use Rattle.std.proofs.lemmas.Slice.{put_mid-paste}
use Rattle.std.proofs.lemmas.List.Edits.{length-paste, paste_all, paste-paste}
use Rattle.slices.specs.Slices.{laid_at, closed_at, put_leaves, close_leaves}
use Rattle.slices.proofs.Places.{down_length}

-- ---- weights laid in
module _ (l : List Float) (at : ℕ) (ws : List Float) where
  pub put_stays : length l < at + length ws → l ≡ put_leaves l at ws
  unfolding put_leaves
  put_stays h = sym (ap (λ (b : Bool). cond b (laid_at at ws l) l) (lt-leb (at + length ws) (length l) h))

  pub put_fits : at + length ws ≤ length l → put_leaves l at ws ≡ laid_at at ws l
  unfolding put_leaves
  put_fits h = ap (λ (b : Bool). cond b (laid_at at ws l) l) (le-leb (at + length ws) (length l) h)

  -- all copied
  pub put_all : at + length ws ≤ length l → paste l at ws (length ws) ≡ put_leaves l at ws
  put_all h = paste_all l at ws (length ws) refl ∙ sym (put_fits h)

-- ---- a stretch closed up
module _ (l : List Float) (at n end : ℕ) where
  pub close_beyond : length l < end → l ≡ close_leaves l at n end
  unfolding close_leaves
  close_beyond h =
      sym (ap (λ (b : Bool). cond b (closed_at (of_bits binary32 0) at n end l) l) (ap (λ (b : Bool). leb (at + n) end && b) (lt-leb end (length l) h) ∙ and-false (leb (at + n) end)))

  pub close_none : end < at + n → l ≡ close_leaves l at n end
  unfolding close_leaves
  close_none h = sym (ap (λ (b : Bool). cond (b && leb end (length l)) (closed_at (of_bits binary32 0) at n end l) l) (lt-leb (at + n) end h))

  module _ (h : at + n ≤ end) (g : end ≤ length l) where
    pub close_fits : close_leaves l at n end ≡ closed_at (of_bits binary32 0) at n end l
    unfolding close_leaves
    close_fits =
        ap (λ (b : Bool). cond (b && leb end (length l)) (closed_at (of_bits binary32 0) at n end l) l) (le-leb (at + n) end h)
        ∙ ap (λ (b : Bool). cond b (closed_at (of_bits binary32 0) at n end l) l) (le-leb end (length l) g)

    -- those behind moved down, and then the places that come free filled
    pub close_all : (x y : List Float) → x ≡ paste l at (drop (at + n) l) (end - (at + n)) → y ≡ replicate (length (take (end - (end - n)) (drop (end - n) x))) (of_bits binary32 0)
        → put_mid (end - n) (end - (end - n)) x y ≡ close_leaves l at n end
    close_all x y e f =
        let z = of_bits binary32 0 in
        let m = end - (at + n) in
        let down = take m (drop (at + n) l) in
        let d : length down ≡ m = down_length l z at n end h g in
        let a = length-append down (replicate n z) in
        let r = length-replicate n z in
        let o : end - n ≡ at + m = omega arith in
        let k : n ≡ end - (end - n) = omega arith in
        let q : at + (m + n) ≡ end = omega arith in
        let p : x ≡ paste l at down m = e ∙ ap (λ (t : List Float). take at l ++ t ++ drop (at + m) l) (sym (take-take m m (drop (at + n) l) (omega arith))) in
        let w = ap length p ∙ length-paste l at down m (omega arith) (omega arith) in
        let i : length (take (end - (end - n)) (drop (end - n) x)) ≡ n = length-take-le (end - (end - n)) (drop (end - n) x) (omega (arith, length-drop (end - n) x)) ∙ sym k in
        put_mid-paste (end - n) (end - (end - n)) x y (replicate n z) n (f ∙ ap (λ (j : ℕ). replicate j z) i) k (sym r)
        ∙ ap (λ (j : ℕ). paste x j (replicate n z) n) o
        ∙ ap (λ (t : List Float). paste t (at + m) (replicate n z) n) p
        ∙ paste-paste l at down (replicate n z) m n (sym d) (sym r) (omega arith)
        ∙ paste_all l at (down ++ replicate n z) (m + n) (omega arith)
        ∙ ap (λ (j : ℕ). take at l ++ ((down ++ replicate n z) ++ drop j l)) q
        ∙ sym close_fits
