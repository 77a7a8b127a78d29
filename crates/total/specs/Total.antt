-- The total beside an arena (document 02's ticket 4): for each place the weight's 32 bits times the place plus 1, and the sum of these by 2^64.
-- A NaN's bits are 7fc00000. Definitions only.
use Rattle.std.specs.Prelude.{Result, Ok, Err, ℕ, ◌+◌, ◌-◌, ◌*◌, ◌%◌, ◌^◌, Bool, cond, ◌&&◌, List, [], ◌∷◌, length, take, drop, ◌==◌, nat_le, nat_lt, to_bits, Float}
use Rattle.std.specs.Float.{binary32}
use Rattle.transform.specs.Kinds.{places_of, start_of, part, laid}
use Rattle.total.specs.declared.Lent.{Lent}

-- what a call answers: a total, or LENT
abbrev pub Total : Type 0
Total = Result ℕ Lent

-- the one refusal
abbrev pub lent : Lent
lent = record {}

-- the number of a reply, and its values
abbrev pub total_reply : Total → List ℕ
total_reply (Ok total) = 0 ∷ total ∷ []
total_reply (Err e) = 1 ∷ []

-- of weights whose first place is p: the bits of each times its place plus 1, summed up
unfoldable pub sum_from : ℕ → List Float → ℕ
sum_from p [] = 0
sum_from p (x ∷ l) = to_bits binary32 x * (p + 1) + sum_from (p + 1) l

-- their total: that sum, wrapping round
unfoldable pub total_from : ℕ → List Float → ℕ
total_from p l = sum_from p l % 2 ^ 64

-- the total of a stretch of an arena: of `count` places from `first` on
abbrev pub total_of : List Float → ℕ → ℕ → ℕ
total_of a first count = total_from first (take count (drop first a))

-- counting a stretch: LENT unless the arena has 394,752 places and the stretch lies within them
unfoldable pub total_answer : List Float → ℕ → ℕ → Total
total_answer a first count =
    cond (length a == 394752 && nat_le (first + count) 394752) (Ok (total_of a first count)) (Err lent)

-- an arena of n places, a kind and m weights to replace its part by are lent right
unfoldable pub part_right : ℕ → ℕ → ℕ → Bool
part_right n k m = n == 394752 && (nat_lt k 17 && m == places_of k)

-- a total less that of kind k's old weights, plus that of its new ones, wrapping round each time
unfoldable pub replaced : ℕ → ℕ → List Float → List Float → ℕ
replaced t k old new =
    ((t + (2 ^ 64 - total_from (start_of k) old)) % 2 ^ 64 + total_from (start_of k) new) % 2 ^ 64

-- replacing a kind's weights: LENT unless they are lent right
unfoldable pub replace_answer : List Float → ℕ → ℕ → List Float → Total
replace_answer a t k ws = cond (part_right (length a) k (length ws)) (Ok (replaced t k (part k a) ws)) (Err lent)

-- the arena after it
unfoldable pub replace_arena : List Float → ℕ → List Float → List Float
replace_arena a k ws = cond (part_right (length a) k (length ws)) (laid k ws a) a
