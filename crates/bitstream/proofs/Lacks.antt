-- Document 02's ticket 2: how many bits a field lacks. SHORT's number is at least 1 and at most the field's width (`lacks_within`). With so many bits more, whatever they are, the
-- field is read (`lacks_filled`); with fewer it is SHORT again, and lacks the rest (`lacks_fewer`): with one fewer, 1. More bits stand behind the last one that was there or,
-- where the field starts past it, from the field's first bit on. `read-..`: the same of a header with more bytes behind it.
use mathlib.Core.Path.{◌≡◌, refl, ap, ◌∙◌, subst⁻¹}
use mathlib.Core.List.{List, ◌++◌}
use Prim.Native.Nat.{ℕ, zero, suc, ◌+◌, ◌-◌, ◌*◌, ◌/◌, ◌%◌, ◌^◌, ◌≤◌, ◌<◌, max}
use native.Mathlib.Nat.{sub-eq-zero_of_le, sub-pos_iff_lt, max-eq_left, max-eq_right}
use native.Mathlib.Omega.{arith}
use native.Mathlib.Decide.{dec_lt}
use lib.ListN.{length, length-append, get_or-append}
use Rattle.bitstream.specs.Bits.{bit_count, bit_at, field, lacking, found, short, read_up_to, read_bits}
use Rattle.bitstream.proofs.Laws.{up_to_in, up_to_past, up_to_value, up_to_short}

module _ (b : List ℕ) (end p n l : ℕ) (e : read_up_to b end p n ≡ short p l) where
  pub lacks_within : (1 ≤ l) × (l ≤ n)
  lacks_within = let (is, some) = up_to_short b end p n l e in (some, omega (arith, is))

  -- m bits more, in whatever string
  module _ (c : List ℕ) (m : ℕ) where
    pub lacks_filled : l ≤ m → read_up_to c (max p end + m) p n ≡ found (field c p n) (p + n)
    lacks_filled h = let (is, some) = up_to_short b end p n l e in up_to_in c (max p end + m) p n (omega (arith, is))

    pub lacks_fewer : m < l → read_up_to c (max p end + m) p n ≡ short p (l - m)
    lacks_fewer h =
        let (is, some) = up_to_short b end p n l e in
        let left : lacking (max p end + m) p n ≡ l - m = omega (arith, is) in
        up_to_past c (max p end + m) p n (omega (arith, left)) ∙ ap (short p) left

pub read_within : (b : List ℕ) (p n l : ℕ) → read_bits b p n ≡ short p l → (1 ≤ l) × (l ≤ n)
unfolding read_bits
read_within b p n l e = lacks_within b (bit_count b) p n l e

-- a field that is there stays, whatever follows
field_kept : (b d : List ℕ) (p n : ℕ) → n ≤ 8 * length b - p → field (b ++ d) p n ≡ field b p n
unfolding field
field_kept b d p zero h = refl
field_kept b d p (suc n) h =
    let first : bit_at (b ++ d) p ≡ bit_at b p = ap (λ (x : ℕ). x / 2 ^ (p % 8) % 2) (get_or-append b d 0 (p / 8) (omega arith)) in
    rw (first, field_kept b d (p + 1) n (omega arith))

-- where more bits are there, so many fewer lack
fewer : (end later p n l : ℕ) → end ≤ later → lacking end p n ≡ l → lacking later p n ≡ l - (later - max p end)
fewer end later p n l h e = go (dec_lt p end)
  where
    inside : p ≤ end → lacking later p n ≡ l - (later - end)
    inside i = omega arith

    outside : end ≤ p → lacking later p n ≡ l - (later - p)
    outside i = omega arith

    go : Dec (p < end) → lacking later p n ≡ l - (later - max p end)
    go (yes i) = rw (max-eq_right {n = p} {m = end} (omega arith)) (inside (omega arith))
    go (no i) = rw (max-eq_left {n = p} {m = end} (omega arith)) (outside (omega arith))

module _ (b d : List ℕ) (p n : ℕ) where
  longer : bit_count b ≤ bit_count (b ++ d)
  longer = omega (arith, length-append b d)

  pub read_kept : (v q : ℕ) → read_bits b p n ≡ found v q → read_bits (b ++ d) p n ≡ found v q
  unfolding read_bits
  read_kept v q e =
      let (none, is, next) = up_to_value b (bit_count b) p n v q e in
      rw (is, next) (up_to_in (b ++ d) (bit_count (b ++ d)) p n (omega (arith, none, longer)) ∙ ap (λ (x : ℕ). found x (p + n)) (field_kept b d p n (omega (arith, none))))

  module _ (l : ℕ) (e : read_bits b p n ≡ short p l) where
    pub read_fewer : bit_count (b ++ d) - max p (bit_count b) < l → read_bits (b ++ d) p n ≡ short p (l - (bit_count (b ++ d) - max p (bit_count b)))
    unfolding read_bits
    read_fewer h =
        let (is, some) = up_to_short b (bit_count b) p n l e in
        let left = fewer (bit_count b) (bit_count (b ++ d)) p n l longer is in
        up_to_past (b ++ d) (bit_count (b ++ d)) p n (subst⁻¹ (λ (m : ℕ). 0 < m) left (sub-pos_iff_lt.1 h)) ∙ ap (short p) left

    pub read_filled : l ≤ bit_count (b ++ d) - max p (bit_count b) → read_bits (b ++ d) p n ≡ found (field (b ++ d) p n) (p + n)
    unfolding read_bits
    read_filled h =
        let (is, some) = up_to_short b (bit_count b) p n l e in
        up_to_in (b ++ d) (bit_count (b ++ d)) p n (fewer (bit_count b) (bit_count (b ++ d)) p n l longer is ∙ sub-eq-zero_of_le h)
