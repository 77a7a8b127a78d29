-- `spot::square_sums`: each column's bits, and those moved up. Assumes nothing.
use Rattle.std.proofs.Common.{◌≡◌, ℕ, ◌-◌, ◌<◌, get_or, ap, ◌∙◌, rules, tests}
use Rattle.bands.specs.Eights.{sum_bits, raised_of}
use Rattle.bands.proofs.TableLaws.{maps_each, makes_each}
use Rattle.bands.proofs.spot.square_sums.Goals as goal
use Rattle.bands.proofs.spot.square_sums.Goals.{After-from_fn-bits}

lows : (c : After-from_fn-bits) (k : ℕ) → k < 8 → get_or c.from_fn-bits.result k 0 ≡ sum_bits c.args.x c.args.y (c.args.sides.w - 1) (c.args.sides.h - 1) k
lows c = makes_each _ (sum_bits c.args.x c.args.y (c.args.sides.w - 1) (c.args.sides.h - 1)) _ _ (λ x y q k. search (rules, tests)) 8 c.from_fn-bits.ensures.items

pub returns : goal.returns
returns c =
    let low = lows (goal.at.returns c).After-from_fn-bits in
    record {
      long = c.map-up.ensures.items.long;
      low = low;
      high = λ k h. maps_each _ raised_of _ _ _ (λ x y q k. search (rules, tests)) 8 c.map-up.ensures.items k h ∙ ap raised_of (low k h);
    }
