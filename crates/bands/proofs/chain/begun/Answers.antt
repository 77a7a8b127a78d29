-- `chain::begun`: the digits that come down are the numbers' without their first; the rest is `digits_eight`. Assumes nothing.
use Rattle.std.proofs.Common.{◌≡◌, ℕ, ◌-◌, ◌*◌, ◌/◌, ◌%◌, ◌^◌, ◌<◌, get_or, rules, tests}
use Rattle.bands.proofs.TableLaws.{maps_each}
use Rattle.bands.proofs.ChainRoots.{chains_begun, chains_nearly}
use Rattle.bands.proofs.chain.begun.Goals as goal
use Rattle.bands.proofs.chain.begun.Goals.{After-map-rem, After-map-left}

rems : (c : After-map-rem) (k : ℕ) → k < 8 → get_or c.map-rem.result k 0 ≡ get_or c.args.last k 0 * 2 % 2 ^ 32 / 2 ^ (30 - c.args.j * 2 % 2 ^ 64)
rems c = maps_each _ (λ x. x * 2 % 2 ^ 32 / 2 ^ (30 - c.args.j * 2 % 2 ^ 64)) _ _ _ (λ x y q k. search (rules, tests)) 8 c.map-rem.ensures.items

lefts : (c : After-map-left) (k : ℕ) → k < 8 → get_or c.map-left.result k 0 ≡ get_or c.args.last k 0 * 2 % 2 ^ 32 * 2 ^ (32 - (30 - c.args.j * 2 % 2 ^ 64)) % 2 ^ 32
lefts c = maps_each _ (λ x. x * 2 % 2 ^ 32 * 2 ^ (32 - (30 - c.args.j * 2 % 2 ^ 64)) % 2 ^ 32) _ _ _ (λ x y q k. search (rules, tests)) 8 c.map-left.ensures.items

pub digits_eight-requires : goal.digits_eight-requires
digits_eight-requires c =
    let p = c.requires in
    chains_begun _ _ _ _ p.0 p.1 c.map-rem.ensures.items.long c.map-left.ensures.items.long
    (rems (goal.at.digits_eight-requires c).After-map-rem) (lefts (goal.at.digits_eight-requires c).After-map-left)

pub returns : goal.returns
returns c =
    let p = c.requires in
    chains_nearly _ _ _ _ p.0 p.1 c.map-rem.ensures.items.long c.map-left.ensures.items.long
    (rems (goal.at.returns c).After-map-rem) (lefts (goal.at.returns c).After-map-left) _ _ c.digits_eight.ensures
