-- A part as the C face gives it: where it starts and how long it is. Definitions only.
use Rattle.std.specs.Prelude.{ℕ, ◌&&◌, cond, List, [], ◌∷◌, leb, eqb, Ok, Err}
use Rattle.transform.specs.Kinds.{area_of}
use Rattle.dequant.specs.Shown.{named, channel_start, found}
use Rattle.dequant.specs.Jpeg.{Jpeg, jpeg_numbers}
use Rattle.dequant.specs.declared.shown.Order.{Order}
use Rattle.dequant.specs.declared.shown.Order.TheVariants.{Unnamed, Straight, Transposed}

-- an order by its number: 0 none named, 1 straight, 2 transposed; no other number names one, and lookup refuses it
abbrev pub order_of : ℕ → Order
order_of o = cond (eqb o 2) Transposed (cond (eqb o 1) Straight Unnamed)

-- the number of the arena that an order shows: 0 straight, 1 transposed
abbrev pub arena_of : Order → ℕ
arena_of o = named o 0 1

-- the same by the order's number
abbrev pub arena_no : ℕ → ℕ
arena_no o = arena_of (order_of o)

-- the part of channel c of kind k: the arena, the first place, the length
abbrev pub part_reply : ℕ → ℕ → ℕ → List ℕ
part_reply k c o = 0 ∷ arena_no o ∷ channel_start k c ∷ area_of k ∷ []

-- lookup in arenas of lengths s and t: DONE with the part; LENT for bad arguments, an unknown order among them
unfoldable pub lookup_reply : ℕ → ℕ → ℕ → ℕ → ℕ → List ℕ
lookup_reply s t k c o = cond (leb o 2 && found k c s t) (part_reply k c o) (1 ∷ [])

-- JPEG values that begin at a place of the samples: DONE with that place, and 64
abbrev pub jpeg_reply : ℕ → Jpeg → List ℕ
jpeg_reply first (Ok done) = 0 ∷ first ∷ 64 ∷ []
jpeg_reply first (Err why) = jpeg_numbers (Err why)
