-- The total of items, of which each counts with a number, times its place plus 1. Definitions only.
use Rattle.std.specs.Prelude.{ℕ, ◌+◌, ◌*◌, ◌%◌, ◌^◌, List, [], ◌∷◌}

-- of items whose first place is p: the number of each times its place plus 1, summed up
unfoldable pub weighed_from : {A : Type 0} → (A → ℕ) → ℕ → List A → ℕ
weighed_from n p [] = 0
weighed_from n p (x ∷ l) = n x * (p + 1) + weighed_from n (p + 1) l

-- their total, wrapping round, where the first place is 0
unfoldable pub total_of : {A : Type 0} → (A → ℕ) → List A → ℕ
total_of n l = weighed_from n 0 l % 2 ^ 64
