-- Numbers that are all 0: as `all` over them says it, and what they are. Assumes nothing.
use mathlib.Core.Path.{◌≡◌, refl, ap, ◌∙◌}
use mathlib.Core.Bool.{Bool, true, ◌&&◌}
use mathlib.Core.List.{List, [], ◌∷◌}
use Prim.Native.Nat.{ℕ, zero, suc, ◌≤◌}
use borrow.Author.Tests.{eqb-true}
use lib.Dec.{eqb}
use lib.ListN.{length, drop, replicate, drop_of_length-le}
use Rattle.std.specs.List.{list_all}
use Rattle.transform.specs.Zeros.{all_zero}
use Rattle.transform.proofs.Chain.{left, right}

pub zero_none : (l : List ℕ) (i : ℕ) → length l ≤ i → all_zero (drop i l) ≡ true
zero_none l i h = ap all_zero (drop_of_length-le l h)

-- as `all` tests them
pub zero_all : (l : List ℕ) → list_all (λ v. eqb v 0) l ≡ all_zero l
zero_all [] = refl
zero_all (v ∷ l) = ap (λ (t : Bool). eqb v 0 && t) (zero_all l)

-- they are that many zeros
pub zeros_of : (l : List ℕ) → all_zero l ≡ true → l ≡ replicate (length l) 0
zeros_of [] e = refl
zeros_of (v ∷ l) e =
    ap (λ (x : ℕ). x ∷ l) (eqb-true v 0 (left (eqb v 0) (all_zero l) e)) ∙ ap (λ (x : List ℕ). 0 ∷ x) (zeros_of l (right (eqb v 0) (all_zero l) e))

pub of_zeros : (n : ℕ) → all_zero (replicate n 0) ≡ true
of_zeros zero = refl
of_zeros (suc n) = of_zeros n
