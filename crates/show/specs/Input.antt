-- What programs that replay cases read: an input of words of four bytes, and parts of it. A case is known by the byte at which it begins.
-- Definitions only.
use Rattle.std.specs.Prelude.{ℕ, ◌+◌, ◌*◌, ◌/◌, cond, List, [], length, take, drop, nat_le, nat_lt, slice_index}

-- the first n, or none where there are fewer
unfoldable pub first_of : {A : Type 0} → ℕ → List A → List A
first_of n l = cond (nat_le n (length l)) (take n l) []

-- word j: four bytes, the lowest first, or 0 where they aren't all there
unfoldable pub word_at : List ℕ → ℕ → ℕ
word_at s j =
    cond (nat_lt j (length s / 4))
    (slice_index s (4 * j) + 256 * (slice_index s (4 * j + 1) + 256 * (slice_index s (4 * j + 2) + 256 * slice_index s (4 * j + 3))))
    0

-- word j of a case
abbrev pub field_at : List ℕ → ℕ → ℕ → ℕ
field_at s at j = word_at (drop at s) j

-- the number of a case's word j and the next, the low one first
abbrev pub number_at : List ℕ → ℕ → ℕ → ℕ
number_at s at j = field_at s at j + 4294967296 * field_at s at (j + 1)

-- the bytes that a case names by word j, where they begin, and the next, how many there are
abbrev pub named_at : List ℕ → ℕ → ℕ → List ℕ
named_at s at j = first_of (field_at s at (j + 1)) (drop (field_at s at j) s)

-- the words that a case names so
abbrev pub listed_at : List ℕ → ℕ → ℕ → List ℕ
listed_at s at j = first_of (4 * field_at s at (j + 1)) (drop (field_at s at j) s)
