-- `root32` is `root_of`: by the bits of x. Assumes nothing.
use Rattle.std.proofs.Common.{rules, ◌≡◌, ℕ, ◌%◌, ◌^◌, ◌<◌, Bool, not, T, sym, ap, ◌∙◌, subst, arith, le-ltb}
use lib.Ieee.{Float, nan, binary32, fits, nan_bits, to_bits}
use lib.Ieee.Bits.{of_bits-to_bits, to_bits-lt, nan_bits_above}
use lib.Ieee.Compare.{differs_from_itself}
use Rattle.bands.specs.Root.{root_of}
use Rattle.transform.proofs.Floats.{same_is_number}
use Rattle.bands.proofs.Fields.{no_quotient}
use Rattle.bands.proofs.RootFields.{root_nan, root_none, own_root}
use Rattle.bands.proofs.root.root32.Goals as goal
use Rattle.bands.proofs.root.root32.Goals.{Start}

-- ---- on values
nan_root : (x : Float) → x ≡ nan → x ≡ root_of x
nan_root x e = e ∙ sym root_nan ∙ ap root_of (sym e)

no_nan_bits : (r : ℕ) → r < 0x7f80_0000 → T (not (nan_bits binary32 r))
no_nan_bits r h = subst (λ (b : Bool). T (not b)) (sym (nan_bits_above binary32 r ∙ le-ltb 0x7f80_0000 (r % 2 ^ 31) (omega arith))) tt

-- ---- the needs
held : (c : Start) → T (fits binary32 c.args.x)
held c = subst T (sym c.well_formed.0.1) tt

pub returns-then-x : goal.returns-then-x
returns-then-x c = nan_root c.args.x (differs_from_itself c.args.x (subst T (sym c.if-x.true) tt))

pub float_to_bits-b : goal.float_to_bits-b
float_to_bits-b c = same_is_number c.args.x c.if-x.false

pub float_from_bits-result : goal.float_from_bits-result
float_from_bits-result c = no_nan_bits c.root_bits.result c.root_bits.ensures.1

pub returns-else-b-gt2139095040 : goal.returns-else-b-gt2139095040
returns-else-b-gt2139095040 c =
    c.root_bits.ensures.0 ∙ ap root_of (of_bits-to_bits binary32 c.args.x (held c.before.before.before.before))

pub returns-in-0 : goal.returns-in-0
returns-in-0 c =
    let x = c.args.x in
    let back = of_bits-to_bits binary32 x (held c.before.before) in
    sym back ∙ own_root (to_bits binary32 x) c.in-0.is ∙ ap root_of back

pub returns-then-b-gt2139095040 : goal.returns-then-b-gt2139095040
returns-then-b-gt2139095040 c =
    let x = c.args.x in
    let fit = held c.before.before.before in
    let no : to_bits binary32 x ≡ 0x8000_0000 → ⊥ = search rules in
    no_quotient ∙ sym (root_none (to_bits binary32 x) (to_bits-lt binary32 x fit) c.if-b-gt2139095040.true no) ∙ ap root_of (of_bits-to_bits binary32 x fit)
