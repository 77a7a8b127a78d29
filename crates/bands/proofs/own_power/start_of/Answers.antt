-- `own_power::start_of` meets its contract, by the bits of q. Assumes nothing.
use Rattle.std.proofs.Common.{◌≡◌, ℕ, ◌*◌, ◌^◌, ◌<◌, not, T, sym, ◌∙◌, subst, ⊎_elim, lt_of_lt_of_le, arith, lit≤}
use lib.Count.{count_leading_zeros}
use lib.Ieee.{Float, binary32, fits, to_bits}
use lib.Ieee.Compare.{differs_from_itself}
use lib.Ieee.Positive.{positive}
use Rattle.bands.specs.Views.{exponent_of, start_of}
use Rattle.transform.proofs.Floats.{same_is_number}
use Rattle.bands.proofs.Fields.{Is, normal_is, small_is, zero_not, high_not, nan_not}
use Rattle.bands.proofs.SetBits.{top_of}
use Rattle.bands.proofs.PowerLaws.{start_some, start_none, exponent_some, exponent_none}
use Rattle.bands.proofs.own_power.start_of.Goals as goal
use Rattle.bands.proofs.own_power.start_of.Goals.{Else-bits-ge2139095040, Start}

held : (c : Start) → T (fits binary32 c.args.q)
held c = subst T (sym c.well_formed.0.1) tt

none : (q : Float) → T (not (positive q)) → (0 ≡ exponent_of q) × (2 ^ 31 ≡ start_of q)
none q t = (sym (exponent_none q t), sym (start_none q t))

some : (q : Float) (e s : ℕ) → Is q e s → (e ≡ exponent_of q) × (s ≡ start_of q)
some q e s i = (sym (exponent_some q i.above ∙ i.exponent_is), sym (start_some q i.above ∙ i.scaled_is))

pub returns-then-q : goal.returns-then-q
returns-then-q c = let q = c.args.q in none q (nan_not q (differs_from_itself q (subst T (sym c.if-q.true) tt)))

pub float_to_bits-bits : goal.float_to_bits-bits
float_to_bits-bits c = same_is_number c.args.q c.if-q.false

-- the bits of a q that has a power
module _ (c : Else-bits-ge2139095040) where
  abbrev b : ℕ
  b = to_bits binary32 c.args.q

  some_bits : 0 < b
  some_bits = omega (arith, c.if-bits-eq0.false)

  few_bits : b < 255 * 2 ^ 23
  few_bits = c.if-bits-ge2139095040.false

  zeros_few : count_leading_zeros 32 b < 32
  zeros_few = (top_of b some_bits (lt_of_lt_of_le few_bits (lit≤ tt))).few

pub returns-then-bits-lt8388608 : goal.returns-then-bits-lt8388608
returns-then-bits-lt8388608 c = some _ _ _ (small_is _ (held c.before.before.before.before) (some_bits c.before) c.if-bits-lt8388608.true)

pub returns : goal.returns
returns c = some _ _ _ (normal_is _ (held c.before.before.before.before) c.if-bits-lt8388608.false (few_bits c.before))

pub returns-then-bits-eq0 : goal.returns-then-bits-eq0
returns-then-bits-eq0 c =
    let q = c.args.q in
    let f = subst T (sym c.well_formed.0.1) tt in
    none q (⊎_elim (λ w. zero_not q f w) (λ w. high_not q f w.1) c.then-bits-eq0.either)
