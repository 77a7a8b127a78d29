-- `chain::last_three`: three digits more of a root (`three`). Assumes nothing.
use Rattle.std.proofs.Common.{◌+◌, ◌-◌, ◌*◌, ◌%◌, ◌^◌, ◌<◌, ◌≤◌, refl, ◌∙◌, subst, zero-le, arith}
use Rattle.bands.specs.Eights.{Less}
use Rattle.bands.proofs.ChainRoots.{Told, told, told_bit, Leaves, leaves, first_small, second_small, three, shifted, odd}
use Rattle.bands.proofs.chain.last_three.Goals as goal
use Rattle.bands.proofs.chain.last_three.Goals.{After-digit-x, After-digit-y, After-digit-z, After-less, After-less-a, After-less-b}

-- the first digit and what it leaves
x-told : (c : After-digit-x) → Told c.digit-x.result c.args.r c.args.m
x-told c = told _ _ _ c.digit-x.ensures

x-leaves : (c : After-less-a) → Leaves c.digit-x.result c.args.r c.args.m 0 (c.less-a.result * 2 % 2 ^ 32)
x-leaves c = let p = c.requires in leaves _ _ _ _ _ _ _ (omega (arith, p.0, p.1)) zero-le (omega arith) (x-told c.before) c.less-a.ensures refl

x-small : (c : After-less-a) → (c.digit-x.result ≤ c.less-a.result * 2 % 2 ^ 32) × (c.less-a.result * 2 % 2 ^ 32 ≤ 2 * c.args.r)
x-small c = let p = c.requires in first_small _ _ _ _ 0 0 p.0 p.1 (x-leaves c)

-- the second
y-told : (c : After-digit-y) → Told c.digit-y.result c.args.r (c.less-a.result * 2 % 2 ^ 32 - c.digit-x.result)
y-told c = told _ _ _ c.digit-y.ensures

y-leaves : (c : After-less-b) → Leaves c.digit-y.result c.args.r (c.less-a.result * 2 % 2 ^ 32) c.digit-x.result (c.less-b.result * 2 % 2 ^ 32)
y-leaves c =
    let l = c.before.before in
    let p = l.requires in
    let s = x-small l in
    leaves _ _ _ _ _ _ _ (omega (arith, p.0, s.1)) s.0 refl (y-told c.before) c.less-b.ensures refl

y-small : (c : After-less-b) → (c.less-b.result * 2 % 2 ^ 32 ≤ 2 * c.args.r + 2) × (c.digit-y.result ≤ 1) × (0 < c.digit-x.result → 2 * c.digit-y.result + 1 ≤ c.less-b.result * 2 % 2 ^ 32)
y-small c =
    let l = c.before.before in
    let p = l.requires in
    second_small _ _ _ _ _ _ p.0 p.1 (x-leaves l) (y-leaves c)

-- what the third is compared with
z-less : (c : After-less) → Less c.less.result (c.less-b.result * 2 % 2 ^ 32) c.digit-x.result (2 * c.digit-y.result + 1)
z-less c = subst (Less _ _ _) (odd _ (y-small c.before).1) c.less.ensures

z-told : (c : After-digit-z) → Told c.digit-z.result c.args.r c.less.result
z-told c = told _ _ _ c.digit-z.ensures

pub returns : goal.returns
returns c =
    let d = c.before.before in
    let l = d.before.before in
    let p = l.requires in
    shifted _ _ _ _ p.0 (told_bit _ _ _ (x-told l.before)) (told_bit _ _ _ (y-told d.before)) (told_bit _ _ _ (z-told c))
    ∙ three _ _ _ _ _ _ p.0 p.1 (x-leaves l) (y-leaves d) _ _ (z-told c) (z-less c.before)
