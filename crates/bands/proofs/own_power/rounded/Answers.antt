-- `own_power::rounded` meets its contract: what is kept of y is the pattern, with the digits that its unit has above the smallest one as the field. Assumes nothing.
use Rattle.std.proofs.Common.{◌≡◌, ℕ, ◌+◌, ◌-◌, ◌*◌, ◌^◌, ◌<◌, ◌≤◌, refl, ap, ◌∙◌, lt_of_lt_of_le, arith, pow_mono}
use lib.Ieee.{binary32, of_bits}
use Rattle.bands.proofs.Patterns.{kept_high, from_bits, from_units, no_nan}
use Rattle.bands.proofs.own_power.rounded.Goals as goal
use Rattle.bands.proofs.own_power.rounded.Goals.{After-nearest_shift, After-nearest_shift-else-y-lt2147483648, After-nearest_shift-then-y-lt2147483648}

-- ---- below 2 ^ 24 units
drops : (i : ℕ) → i < 24 → i + (31 - i) ≡ 31
drops i h = omega arith

reaches : (y i : ℕ) → i < 24 → y < 2 ^ 32 → y < 2 ^ (24 + (31 - i))
reaches y i h l = lt_of_lt_of_le l (pow_mono {i = 32} {j = 24 + (31 - i)} (omega arith))

small-pattern : (c : After-nearest_shift) → c.nearest_shift.result ≤ 2 ^ 24
small-pattern c =
    let a = c.args in
    let h = c.if-i-lt24.true in
    omega (arith, c.nearest_shift.ensures, kept_high a.y a.i (31 - a.i) 0 (drops a.i h) (reaches a.y a.i h c.requires.1))

-- ---- 24 digits, of 31 or of 32
seven : (i : ℕ) → 24 ≤ i → i + 7 ≡ 31 + (i - 24)
seven i h = omega arith

eight : (i : ℕ) → 24 ≤ i → i + 8 ≡ 31 + (i - 23)
eight i h = omega arith

low-pattern : (c : After-nearest_shift-then-y-lt2147483648) → (c.args.i - 24) * 2 ^ 23 + c.nearest_shift-then-y-lt2147483648.result ≤ 255 * 2 ^ 23
low-pattern c =
    let d = c.before.before.before in
    let k = kept_high d.args.y d.args.i 7 (d.args.i - 24) (seven d.args.i c.if-i-lt24.false) c.if-y-lt2147483648.true in
    omega (arith, c.nearest_shift-then-y-lt2147483648.ensures, k, d.requires.2)

high-pattern : (c : After-nearest_shift-else-y-lt2147483648) → (c.args.i - 23) * 2 ^ 23 + c.nearest_shift-else-y-lt2147483648.result ≤ 255 * 2 ^ 23
high-pattern c =
    let d = c.before.before.before in
    let k = kept_high d.args.y d.args.i 8 (d.args.i - 23) (eight d.args.i c.if-i-lt24.false) d.requires.1 in
    omega (arith, c.nearest_shift-else-y-lt2147483648.ensures, k, d.requires.2)

pub float_from_bits-result : goal.float_from_bits-result
float_from_bits-result c = no_nan _ (omega (arith, small-pattern c))

pub float_from_bits-result-then-y-lt2147483648 : goal.float_from_bits-result-then-y-lt2147483648
float_from_bits-result-then-y-lt2147483648 c = no_nan _ (low-pattern c)

pub float_from_bits-result-else-y-lt2147483648 : goal.float_from_bits-result-else-y-lt2147483648
float_from_bits-result-else-y-lt2147483648 c = no_nan _ (high-pattern c)

pub returns-then-i-lt24 : goal.returns-then-i-lt24
returns-then-i-lt24 c =
    let a = c.args in
    let h = c.if-i-lt24.true in
    ap (of_bits binary32) c.nearest_shift.ensures
    ∙ from_units a.y a.i (31 - a.i) 0 (drops a.i h) (reaches a.y a.i h c.requires.1) refl

pub returns-then-y-lt2147483648 : goal.returns-then-y-lt2147483648
returns-then-y-lt2147483648 c =
    let d = c.before.before.before in
    ap (λ (z : ℕ). of_bits binary32 ((d.args.i - 24) * 2 ^ 23 + z)) c.nearest_shift-then-y-lt2147483648.ensures
    ∙ from_bits d.args.y d.args.i 7 (d.args.i - 24) (seven d.args.i c.if-i-lt24.false) c.if-y-lt2147483648.true d.requires.0 (omega (arith, d.requires.2))

pub returns-else-y-lt2147483648 : goal.returns-else-y-lt2147483648
returns-else-y-lt2147483648 c =
    let d = c.before.before.before in
    ap (λ (z : ℕ). of_bits binary32 ((d.args.i - 23) * 2 ^ 23 + z)) c.nearest_shift-else-y-lt2147483648.ensures
    ∙ from_bits d.args.y d.args.i 8 (d.args.i - 23) (eight d.args.i c.if-i-lt24.false) d.requires.1 c.if-y-lt2147483648.false (omega (arith, d.requires.2))
