-- `chain::by_halves`: each number is one of the eight, so it is near 2 ^ 31. Assumes nothing.
use Rattle.std.proofs.Common.{ℕ, ◌+◌, ◌≤◌, ◌<◌, ◌^◌, subst, lt_of_lt_of_le, le_of_eq, lit<}
use Rattle.bands.proofs.TableLaws.{at_turn}
use Rattle.bands.proofs.chain.by_halves.Goals as goal

pub map-requires : goal.map-requires
map-requires c = (
  lit< tt,
  (
    lit< tt,
    (
      lit< tt,
      record {
        at = λ xs t q x u y f s.
            let w = at_turn _ xs t u x y s in
            let k = lt_of_lt_of_le w.0 (le_of_eq c.well_formed.0.1.0.1) in
            (subst (λ (z : ℕ). 2 ^ 31 ≤ z) w.1 (c.requires.low _ k), subst (λ (z : ℕ). z < 2 ^ 31 + 2 ^ 16) w.1 (c.requires.high _ k));
      },
    ),
  ),
)
