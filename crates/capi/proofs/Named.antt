-- The numbers that the C face gives for a part name the very part that the library shows.
-- Assumes nothing.
use mathlib.Core.Path.{◌≡◌, refl, ap, ◌∙◌}
use mathlib.Core.Bool.{Bool, true, false, cond, ◌&&◌}
use mathlib.Core.List.{List, [], ◌∷◌}
use Prim.Native.Nat.{ℕ, ◌*◌, ◌≤◌}
use borrow.Author.Tests.{le-leb}
use lib.Dec.{eqb}
use lib.IntN.{ℤ}
use lib.ListN.{length, get_or, take, drop}
use lib.Ieee.{Float}
use Rattle.transform.specs.Kinds.{area_of}
use Rattle.dequant.specs.Shown.{channel_start, found, shown, channel_part, named}
use Rattle.dequant.specs.declared.shown.Order.{Order}
use Rattle.dequant.specs.declared.shown.Order.TheVariants.{Unnamed, Straight, Transposed}
use Rattle.dequant.specs.Jpeg.{Jpeg, jpeg_answer, jpeg_values, given_by}
use Rattle.dequant.specs.declared.jpeg.JpegError.TheVariants.{Lent, Row, None}
use Rattle.std.proofs.Common.{Ok, Err}
use Rattle.capi.specs.Parts.{order_of, arena_of, part_reply, lookup_reply, jpeg_reply}

-- the part of one of two arenas that three values name
abbrev pub part_of : List Float → List Float → List ℕ → List Float
part_of s t said = take (get_or said 3 0) (drop (get_or said 2 0) (cond (eqb (get_or said 1 0) 1) t s))

pub lookup_names : (s t : List Float) (k c o : ℕ) → o ≤ 2
    → part_of s t (lookup_reply (length s) (length t) k c o) ≡ shown s t k c (order_of o)
unfolding lookup_reply shown
lookup_names s t k c o h =
    ap (λ (x : Bool). part_of s t (cond (x && found k c (length s) (length t)) (part_reply k c o) (1 ∷ []))) (le-leb o 2 h)
    ∙ go (found k c (length s) (length t)) (order_of o)
  where
    go : (f : Bool) (x : Order) → part_of s t (cond f (0 ∷ arena_of x ∷ channel_start k c ∷ area_of k ∷ []) (1 ∷ [])) ≡ cond f (channel_part k c (named x s t)) []
    go true Unnamed = refl
    go true Straight = refl
    go true Transposed = refl
    go false x = refl

-- the part of the samples that a reply's two values name: where it starts, and how long it is
abbrev pub samples_of : List ℤ → List ℕ → List ℤ
samples_of zs said = take (get_or said 2 0) (drop (get_or said 1 0) zs)

pub jpeg_names : (rows : List ℕ) (zs : List ℤ) (c : ℕ) → samples_of zs (jpeg_reply (c * 64) (jpeg_answer rows (length zs) c)) ≡ jpeg_values rows zs c
unfolding jpeg_values
jpeg_names rows zs c = go (jpeg_answer rows (length zs) c)
  where
    go : (j : Jpeg) → samples_of zs (jpeg_reply (c * 64) j) ≡ given_by j (take 64 (drop (c * 64) zs))
    go (Ok done) = refl
    go (Err Lent) = refl
    go (Err (Row k)) = refl
    go (Err None) = refl
