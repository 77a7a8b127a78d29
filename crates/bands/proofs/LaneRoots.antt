-- One lane of eight, from a float's bits to the bits of its root: what is done before and after the whole root. Assumes nothing.
use Rattle.std.proofs.Common.{◌≡◌, ℕ, ◌+◌, ◌-◌, ◌*◌, ◌/◌, ◌%◌, ◌^◌, ◌<◌, ◌≤◌, sym, refl, ap, ◌∙◌, subst, zero-le, le_trans, le_of_eq, lt_of_le_of_lt, mul-le-mul, arith, lit<, lit≤}
use lib.Bits.{bit_or, or_shifted_r}
use lib.Ieee.{binary32, of_bits}
use Rattle.bands.specs.Root.{whole_root, root_of, IsRoot}
use Rattle.bands.specs.Views.{Lifted}
use Rattle.bands.specs.Eights.{Lane, raised_of}
use Rattle.bands.proofs.Roots.{whole_is, sq_cancel}
use Rattle.bands.proofs.Lift.{start, done}
use Rattle.bands.proofs.Written.{root_bits}
use Rattle.bands.proofs.RootFields.{root_high}

-- ---- moved up
by_parity : (b p : ℕ) → (b / 2 ^ 23 + 1) % 2 ≡ p → (b % 2 ^ 23 + 2 ^ 23) * 2 ^ 7 * (1 + p) ≡ raised_of b
by_parity b p e = ap (λ (z : ℕ). (b % 2 ^ 23 + 2 ^ 23) * 2 ^ 7 * (1 + z)) (sym e)

pub raised_even : (b : ℕ) → b * 256 % 2 ^ 32 / 2 ^ 31 ≡ 0 → bit_or (b * 512 % 2 ^ 32 / 2) (2 ^ 31) ≡ raised_of b
raised_even b h = or_shifted_r 1 31 (b * 512 % 2 ^ 32 / 2) (omega arith) ∙ twice b ∙ by_parity b 1 (odd b h)
  where
    twice : (b : ℕ) → 1 * 2 ^ 31 + b * 512 % 2 ^ 32 / 2 ≡ (b % 2 ^ 23 + 2 ^ 23) * 2 ^ 7 * (1 + 1)
    twice b = omega arith

    odd : (b : ℕ) → b * 256 % 2 ^ 32 / 2 ^ 31 ≡ 0 → (b / 2 ^ 23 + 1) % 2 ≡ 1
    odd b h = omega arith

pub raised_odd : (b : ℕ) → (b * 256 % 2 ^ 32 / 2 ^ 31 ≡ 0 → ⊥) → bit_or (b * 512 % 2 ^ 32 / 4) (2 ^ 30) ≡ raised_of b
raised_odd b h = or_shifted_r 1 30 (b * 512 % 2 ^ 32 / 4) (omega arith) ∙ once b ∙ by_parity b 0 (even b h)
  where
    once : (b : ℕ) → 1 * 2 ^ 30 + b * 512 % 2 ^ 32 / 4 ≡ (b % 2 ^ 23 + 2 ^ 23) * 2 ^ 7 * (1 + 0)
    once b = omega arith

    even : (b : ℕ) → (b * 256 % 2 ^ 32 / 2 ^ 31 ≡ 0 → ⊥) → (b / 2 ^ 23 + 1) % 2 ≡ 0
    even b h = omega arith

raised_small : (b : ℕ) → raised_of b < 2 ^ 32
raised_small b = lt_of_le_of_lt (mul-le-mul {n₁ = (b % 2 ^ 23 + 2 ^ 23) * 2 ^ 7} {n₂ = 2 ^ 31 - 2 ^ 7} {m₂ = 2} (digits b) (bit b)) (lit< tt)
  where
    digits : (b : ℕ) → (b % 2 ^ 23 + 2 ^ 23) * 2 ^ 7 ≤ 2 ^ 31 - 2 ^ 7
    digits b = omega arith

    bit : (b : ℕ) → 1 + (b / 2 ^ 23 + 1) % 2 ≤ 2
    bit b = omega arith

-- ---- the whole root is that of 2 ^ 18 times it, of 25 digits
pub lane_raised : (b : ℕ) → Lane (raised_of b * 2 ^ 18) 25 0 0 (raised_of b)
lane_raised b = record { same = scale (raised_of b); fits = raised_small b; less = zero-le; room = lit≤ tt }
  where
    scale : (x : ℕ) → ((0 + 0 * 0) * 2 ^ 32 + x) * 4 ^ 25 ≡ x * 2 ^ 18 * 2 ^ 32
    scale x = omega arith

pub raised_root : (b : ℕ) → whole_root (raised_of b * 2 ^ 18) < 2 ^ 25
raised_root b = sq_cancel (whole_root (raised_of b * 2 ^ 18)) (2 ^ 25) (lt_of_le_of_lt (whole_is (raised_of b * 2 ^ 18)).low (room (raised_of b) (raised_small b)))
  where
    room : (x : ℕ) → x < 2 ^ 32 → x * 2 ^ 18 < 2 ^ 25 * 2 ^ 25
    room x h = omega arith

-- ---- from the whole root r to the root
-- the bits that are packed
abbrev pub packed_of : ℕ → ℕ → ℕ
packed_of b r = (b / 2 ^ 23 + 125) / 2 * 2 ^ 23 % 2 ^ 32 + (r + 1) / 2

pub packed_small : (b r : ℕ) → b < 0x7f80_0000 → r < 2 ^ 25 → packed_of b r < 0x7f80_0000
packed_small b r h l = omega arith

module _ (b r : ℕ) (most : b < 0x7f80_0000) (least : 2 ^ 23 ≤ b) (e : r ≡ whole_root (raised_of b * 2 ^ 18)) where
  lifted : Lifted (b % 2 ^ 23 + 2 ^ 23) (b / 2 ^ 23 - 1) ((b % 2 ^ 23 + 2 ^ 23) * 33554432 * (1 + (b / 2 ^ 23 - 1) % 2)) ((b / 2 ^ 23 - 1) / 2 + 63)
  lifted = done (b % 2 ^ 23 + 2 ^ 23) (b / 2 ^ 23 - 1) _ _ (many b ((b / 2 ^ 23 - 1) % 2)) (start (b % 2 ^ 23 + 2 ^ 23) (b / 2 ^ 23 - 1) (digits b) (field b most))
    where
      digits : (b : ℕ) → b % 2 ^ 23 + 2 ^ 23 < 2 ^ 24
      digits b = omega arith

      field : (b : ℕ) → b < 0x7f80_0000 → b / 2 ^ 23 - 1 < 254
      field b h = omega arith

      many : (b t : ℕ) → 2 ^ 48 ≤ (b % 2 ^ 23 + 2 ^ 23) * 33554432 * (1 + t)
      many b t = le_trans (low b) (mul-le-mul {n₁ = (b % 2 ^ 23 + 2 ^ 23) * 33554432} {n₂ = (b % 2 ^ 23 + 2 ^ 23) * 33554432} (le_of_eq refl) (some t))
        where
          some : (t : ℕ) → 1 ≤ 1 + t
          some t = omega arith

          low : (b : ℕ) → 2 ^ 48 ≤ (b % 2 ^ 23 + 2 ^ 23) * 33554432 * 1
          low b = omega arith

  same : raised_of b * 2 ^ 18 ≡ (b % 2 ^ 23 + 2 ^ 23) * 33554432 * (1 + (b / 2 ^ 23 - 1) % 2)
  same = ap (λ (z : ℕ). (b % 2 ^ 23 + 2 ^ 23) * 2 ^ 7 * (1 + z) * 2 ^ 18) (parity b least) ∙ move b (1 + (b / 2 ^ 23 - 1) % 2)
    where
      parity : (b : ℕ) → 2 ^ 23 ≤ b → (b / 2 ^ 23 + 1) % 2 ≡ (b / 2 ^ 23 - 1) % 2
      parity b h = omega arith

      move : (b t : ℕ) → (b % 2 ^ 23 + 2 ^ 23) * 2 ^ 7 * t * 2 ^ 18 ≡ (b % 2 ^ 23 + 2 ^ 23) * 33554432 * t
      move b t = omega arith

  root : IsRoot ((b % 2 ^ 23 + 2 ^ 23) * 33554432 * (1 + (b / 2 ^ 23 - 1) % 2)) r
  root = subst (IsRoot ((b % 2 ^ 23 + 2 ^ 23) * 33554432 * (1 + (b / 2 ^ 23 - 1) % 2))) (sym (e ∙ ap whole_root same)) (whole_is ((b % 2 ^ 23 + 2 ^ 23) * 33554432 * (1 + (b / 2 ^ 23 - 1) % 2)))

  high : packed_of b r ≡ ((b / 2 ^ 23 - 1) / 2 + 63) * 8388608 + (r + 1) / 2
  high = ap (λ (z : ℕ). z * 2 ^ 23 % 2 ^ 32 + (r + 1) / 2) (halved (b / 2 ^ 23) (some b least)) ∙ ap (λ (z : ℕ). z + (r + 1) / 2) (fit ((b / 2 ^ 23 - 1) / 2) (few b most))
    where
      some : (b : ℕ) → 2 ^ 23 ≤ b → 1 ≤ b / 2 ^ 23
      some b h = omega arith

      halved : (f : ℕ) → 1 ≤ f → (f + 125) / 2 ≡ (f - 1) / 2 + 63
      halved f h = omega arith

      few : (b : ℕ) → b < 0x7f80_0000 → (b / 2 ^ 23 - 1) / 2 ≤ 127
      few b h = omega arith

      fit : (k : ℕ) → k ≤ 127 → (k + 63) * 2 ^ 23 % 2 ^ 32 ≡ (k + 63) * 8388608
      fit k h = omega arith

  pub root_packed : of_bits binary32 (packed_of b r) ≡ root_of (of_bits binary32 b)
  root_packed = ap (of_bits binary32) high ∙ (root_bits _ _ _ _ r lifted root).0 ∙ sym (root_high b most (field b least))
    where
      field : (b : ℕ) → 2 ^ 23 ≤ b → 0 < b / 8388608
      field b h = omega arith
