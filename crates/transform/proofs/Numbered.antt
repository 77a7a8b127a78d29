-- Replies by their numbers. Assumes nothing.
use mathlib.Core.Path.{◌≡◌, ap}
use mathlib.Core.Bool.{false}
use mathlib.Core.List.{List, ◌∷◌}
use Prim.Native.Nat.{ℕ}
use borrow.Author.Tests.{eqb-false}
use lib.Dec.{eqb}
use lib.ListN.{get_or}

-- those of two numbers are not the same
pub differs : (a b : ℕ) (l m : List ℕ) → eqb a b ≡ false → a ∷ l ≡ b ∷ m → ⊥
differs a b l m n e = eqb-false a b n (ap (λ (l : List ℕ). get_or l 0 0) e)
