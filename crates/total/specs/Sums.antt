-- For theorems: totals added with wrap, in any grouping and order, and two arenas that share one. Definitions only.
use Rattle.std.specs.Prelude.{◌≡◌, ℕ, ◌+◌, ◌%◌, ◌^◌, List, [], ◌∷◌, ◌++◌, length, Float}
use Rattle.total.specs.Total.{total_of}

-- numbers grouped for adding
pub data Grouped : Type 0 where
  one : (n : ℕ) → Grouped
  both : (a b : Grouped) → Grouped

-- what they add up to, each addition wrapping round
abbrev pub added : Grouped → ℕ
added (one n) = n % 2 ^ 64
added (both a b) = (added a + added b) % 2 ^ 64

-- the numbers from left to right
abbrev pub numbers : Grouped → List ℕ
numbers (one n) = n ∷ []
numbers (both a b) = numbers a ++ numbers b

-- the whole sum of some numbers
abbrev pub sum : List ℕ → ℕ
sum [] = 0
sum (n ∷ ns) = n + sum ns

-- the totals of neighbouring stretches of these lengths, the first of which begins at `first`
abbrev pub stretches : List Float → ℕ → List ℕ → List ℕ
stretches a first [] = []
stretches a first (n ∷ ns) = total_of a first n ∷ stretches a (first + n) ns

-- two arenas that are not the same and have the same total
pub record Share (a b : List Float) : Type 0 where
  pub first : length a ≡ 394752
  pub second : length b ≡ 394752
  pub apart : a ≡ b → ⊥
  pub total : total_of a 0 394752 ≡ total_of b 0 394752
