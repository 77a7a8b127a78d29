-- The total of weights as the total of items that count with their bits. Assumes nothing.
use Rattle.std.proofs.Common.{◌≡◌, ℕ, ◌+◌, ◌*◌, ◌%◌, ◌^◌, List, [], ◌∷◌, refl, ap, ◌∙◌}
use lib.Ieee.{Float, binary32, to_bits}
use Rattle.total.specs.Total.{sum_from, total_from}
use Rattle.show.specs.Totals.{weighed_from, total_of}

sum_weighed : (p : ℕ) (l : List Float) → weighed_from (to_bits binary32) p l ≡ sum_from p l
unfolding sum_from weighed_from
sum_weighed p [] = refl
sum_weighed p (x ∷ l) = ap (λ (s : ℕ). to_bits binary32 x * (p + 1) + s) (sum_weighed (p + 1) l)

pub total_is : (l : List Float) (r : ℕ) → r ≡ total_of (to_bits binary32) l → r ≡ total_from 0 l
unfolding total_from total_of
total_is l r e = e ∙ ap (λ (s : ℕ). s % 2 ^ 64) (sum_weighed 0 l)
