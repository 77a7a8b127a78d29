-- `weigh::steps` is `steps_of`: the product is exact and below 2 ^ 32. Assumes nothing.
use Rattle.std.proofs.Common.{◌≡◌, ℕ, ◌*◌, ◌^◌, ◌<◌, false, T, sym, ◌∙◌, subst, lt_of_lt_of_le, mul-lt-mul_of_pos_right, mul-div_cancel, lit≤, pow_pos}
use lib.Ieee.{Float, binary32, fits, mul, of_bits, to_unsigned}
use lib.Ieee.Exact.{HasValue}
use Rattle.bands.specs.Views.{Stepped}
use Rattle.bands.proofs.Position.{index_value}
use Rattle.bands.proofs.Truncate.{above_minus_one, below_top}
use Rattle.bands.proofs.TimesPower.{times_power}
use Rattle.bands.proofs.weigh.steps.Goals as goal
use Rattle.bands.proofs.weigh.steps.Goals.{Start}

abbrev raised : Float → Float
raised f = mul binary32 f (of_bits binary32 0x4f80_0000)

raised_value : (f : Float) (s : Stepped f) → T (fits binary32 f) → HasValue (raised f) false (s.n * 2 ^ 32) (2 ^ 32)
unfolding of_bits
raised_value f s t = times_power f 32 s.n (2 ^ 32) (pow_pos 32) t s.steps.value (mul-lt-mul_of_pos_right {n = 2 ^ 128} (lt_of_lt_of_le s.steps.small (lit≤ tt)) (pow_pos 32))

held : (c : Start) → T (fits binary32 c.args.f)
held c = subst T (sym c.well_formed.0.1) tt

under : (n : ℕ) → n < 2 ^ 32 → n * 2 ^ 32 < 2 ^ 64 * 2 ^ 32
under n h = mul-lt-mul_of_pos_right {n = 2 ^ 64} (lt_of_lt_of_le h (lit≤ tt)) (pow_pos 32)

whole : (f : Float) (s : Stepped f) → T (fits binary32 f) → to_unsigned 64 (raised f) ≡ s.n
whole f s t = index_value (raised f) (s.n * 2 ^ 32) (2 ^ 32) (pow_pos 32) (under s.n s.steps.small) (raised_value f s t) ∙ mul-div_cancel s.n (pow_pos 32)

pub overflow_cast-result : goal.overflow_cast-result
overflow_cast-result c = record { fits = subst (λ (n : ℕ). n < 2 ^ 32) (sym (c.truncating_f32_to_u64.ensures ∙ whole c.args.f c.requires (held c.before))) c.requires.steps.small }

pub returns : goal.returns
unfolding of_bits
returns c = c.truncating_f32_to_u64.ensures

pub truncating_f32_to_u64-requires : goal.truncating_f32_to_u64-requires
truncating_f32_to_u64-requires c =
    let n = c.requires.n in
    let v = raised_value c.args.f c.requires (held c) in
    record {
      lower_bound = above_minus_one (raised c.args.f) (n * 2 ^ 32) (2 ^ 32) v;
      upper_bound = below_top (raised c.args.f) (n * 2 ^ 32) (2 ^ 32) (under n c.requires.steps.small) v;
    }
