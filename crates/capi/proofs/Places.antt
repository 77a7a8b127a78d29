-- Which arena an order shows. Assumes nothing.
use mathlib.Core.Path.{◌≡◌, refl, sym, ap, ◌∙◌}
use mathlib.Core.Bool.{Bool, true, false, cond}
use Prim.Native.Nat.{ℕ}
use borrow.Author.Tests.{ne_eqb}
use lib.Dec.{eqb}
use Rattle.dequant.specs.declared.shown.Order.TheVariants.{Unnamed, Straight, Transposed}
use Rattle.capi.specs.Parts.{arena_of, arena_no}

-- order 1 shows arena 0, every other order arena 1
pub straight_arena_lem : (o : ℕ) → o ≡ 1 → 0 ≡ arena_no o
straight_arena_lem o e = sym (ap (λ (i : ℕ). arena_no i) e)

pub other_arena : (o : ℕ) → (o ≡ 1 → ⊥) → 1 ≡ arena_no o
other_arena o h = go (eqb o 2) ∙ sym (ap (λ (x : Bool). arena_of (cond (eqb o 2) Transposed (cond x Straight Unnamed))) (ne_eqb o 1 h))
  where
    go : (x : Bool) → 1 ≡ arena_of (cond x Transposed Unnamed)
    go true = refl
    go false = refl
