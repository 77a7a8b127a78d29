-- The number that follows in a chain: where the digits of its root begin, the last three of them, and halves near the chain's end. Assumes nothing.
use Rattle.std.proofs.Common.{◌≡◌, ℕ, zero, suc, ◌+◌, ◌-◌, ◌*◌, ◌/◌, ◌%◌, ◌^◌, ◌<◌, ◌≤◌, Bool, true, false, cond, not, T, ltb, ◌⊎◌, List, length, get_or, replicate, sym, refl, ap, ◌∙◌, subst, inl, inr, le_trans, le_of_eq, lt_of_lt_of_le, lt_of_le_of_lt, mul-le-mul_right, mod-lt, mod-eq_of_lt, mul_assoc, mul_comm, div-lt_iff_lt-mul, add-mul, mul-le-mul, mul-lt-mul_of_pos_right, pow-suc, div-add-mod', arith, lit<, lit≤, ltb→lt, nltb→le, pow_pos, pow_mono, pow-add}
use native.Mathlib.Nat.{mul-add-mod_self_right}
use lib.Bits.{bit_or, or_shifted_r}
use Rattle.bands.specs.Root.{whole_root, IsRoot}
use Rattle.bands.specs.Power.{chain}
use lib.ListN.{length-replicate, get_or-replicate}
use Rattle.bands.specs.Eights.{Lane, Lanes, Begun, Ended, Near, Nearly, Less}
use Rattle.transform.proofs.Laws.{side}
use Rattle.bands.proofs.DoubleRoot.{pow4}
use Rattle.bands.proofs.Chains.{chain_ge}
use Rattle.bands.proofs.BringDown.{put}
use Rattle.bands.proofs.Roots.{whole_is, root_by, sq_suc, sq_cancel}

-- ---- near the end: of 2 ^ 31 + k
square : (m : ℕ) → (2 ^ 31 + m) * (2 ^ 31 + m) ≡ 2 ^ 62 + 2 ^ 32 * m + m * m
square m = omega arith

is_half : (k f : ℕ) → 2 * f + 1 ≤ k → k ≤ 2 * f + 2 → f ≤ 2 ^ 15 → IsRoot ((2 ^ 31 + k) * 2 ^ 31) (2 ^ 31 + f)
is_half k f a b c =
    let sq : f * f ≤ 2 ^ 15 * f = mul-le-mul_right f c in
    let one : (2 ^ 31 + f) * (2 ^ 31 + f) ≡ 2 ^ 62 + 2 ^ 32 * f + f * f = square f in
    record { low = omega arith; high = omega (arith, sq_suc (2 ^ 31 + f)) }

pub half_some : (x : ℕ) → 2 ^ 31 ≤ x → x < 2 ^ 31 + 2 ^ 16 → 0 < x - 2 ^ 31 → bit_or ((x - 2 ^ 31 - 1) / 2) (2 ^ 31) ≡ whole_root (x * 2 ^ 31)
half_some x lo hi h =
    let k = x - 2 ^ 31 in
    let e : 2 ^ 31 + k ≡ x = omega arith in
    or_shifted_r 1 31 ((k - 1) / 2) (omega arith)
    ∙ subst (λ (z : ℕ). 2 ^ 31 + (k - 1) / 2 ≡ whole_root (z * 2 ^ 31)) e (root_by _ _ (is_half k ((k - 1) / 2) (omega arith) (omega arith) (omega arith)))

pub half_none : (x : ℕ) → 2 ^ 31 ≤ x → x - 2 ^ 31 ≤ 0 → x ≡ whole_root (x * 2 ^ 31)
half_none x lo h = let e : 2 ^ 31 ≡ x = omega arith in subst (λ (z : ℕ). z ≡ whole_root (z * 2 ^ 31)) e (root_by (2 ^ 31 * 2 ^ 31) (2 ^ 31) (record { low = lit≤ tt; high = lit< tt }))

-- ---- three digits more
is_three : (r m e : ℕ) → r * e * 16 + e * e ≤ 64 * m → 64 * m < r * (e + 1) * 16 + (e + 1) * (e + 1) → 8 * r + e ≡ whole_root ((m + r * r) * 64)
is_three r m e a b = root_by _ _ (record { low = omega (arith, square r e); high = omega (arith, square r (e + 1)) })
  where
    square : (r e : ℕ) → (8 * r + e) * (8 * r + e) ≡ 64 * (r * r) + r * e * 16 + e * e
    square r e = omega arith

-- what a compare of r with t says of the digit d
abbrev pub Told : ℕ → ℕ → ℕ → Type 0
Told d r t = ((d ≡ 0) × (t ≤ r)) ⊎ ((d ≡ 1) × (r < t))

pub told : (d r t : ℕ) → d ≡ cond (ltb r t) 1 0 → Told d r t
told d r t e = go (ltb r t) (ltb→lt r t) (nltb→le r t) e
  where
    go : (b : Bool) → (T b → r < t) → (T (not b) → t ≤ r) → d ≡ cond b 1 0 → Told d r t
    go true h g e = inr (e, h tt)
    go false h g e = inl (e, g tt)

-- the digit d of a, of which c was not yet taken, and twice what it leaves
abbrev pub Leaves : ℕ → ℕ → ℕ → ℕ → ℕ → Type 0
Leaves d r a c b = ((d ≡ 0) × (a ≤ r + c) × (b ≡ 2 * a)) ⊎ ((d ≡ 1) × (r + c < a) × (b ≡ 2 * (a - r)))

pub leaves : (d r a c t v b : ℕ) → a < 2 ^ 31 → c ≤ a → t ≡ a - c → Told d r t → Less v a d r → b ≡ v * 2 % 2 ^ 32 → Leaves d r a c b
leaves d r a c t v b A C s (inl h) l e = let w = l.none h.0 in inl (h.0, omega arith, omega arith)
leaves d r a c t v b A C s (inr h) l e = let w = l.one h.0 in inr (h.0, omega arith, omega arith)

module _ (r m x a y b : ℕ) (R : r < 2 ^ 29) (M : m ≤ 2 * r) (fx : Leaves x r m 0 a) where
  pub first_small : (x ≤ a) × (a ≤ 2 * r)
  first_small = go fx
    where
      go : Leaves x r m 0 a → (x ≤ a) × (a ≤ 2 * r)
      go (inl t) = (omega arith, omega arith)
      go (inr t) = (omega arith, omega arith)

  module _ (fy : Leaves y r a x b) where
    -- what the squares of x and y, and of the third digit, still take
    pub second_small : (b ≤ 2 * r + 2) × (y ≤ 1) × (0 < x → 2 * y + 1 ≤ b)
    second_small = go fx fy
      where
        go : Leaves x r m 0 a → Leaves y r a x b → (b ≤ 2 * r + 2) × (y ≤ 1) × (0 < x → 2 * y + 1 ≤ b)
        go (inl s) (inl t) = (omega arith, omega arith, λ h. omega arith)
        go (inl s) (inr t) = (omega arith, omega arith, λ h. omega arith)
        go (inr s) (inl t) = (omega arith, omega arith, λ h. omega arith)
        go (inr s) (inr t) = (omega arith, omega arith, λ h. omega arith)

    pub three : (z c : ℕ) → Told z r c → Less c b x (2 * y + 1) → 8 * r + 4 * x + 2 * y + z ≡ whole_root ((m + r * r) * 64)
    three z c tz l = go fx fy tz
      where
        is : (e : ℕ) → 4 * x + 2 * y + z ≡ e → r * e * 16 + e * e ≤ 64 * m → 64 * m < r * (e + 1) * 16 + (e + 1) * (e + 1) → 8 * r + 4 * x + 2 * y + z ≡ whole_root ((m + r * r) * 64)
        is e s h g = let w : 8 * r + 4 * x + 2 * y + z ≡ 8 * r + e = omega arith in w ∙ is_three r m e h g

        go : Leaves x r m 0 a → Leaves y r a x b → Told z r c → 8 * r + 4 * x + 2 * y + z ≡ whole_root ((m + r * r) * 64)
        go (inl s) (inl t) (inl u) = let w = l.none s.0 in is 0 (omega arith) (omega arith) (omega arith)
        go (inl s) (inl t) (inr u) = let w = l.none s.0 in is 1 (omega arith) (omega arith) (omega arith)
        go (inl s) (inr t) (inl u) = let w = l.none s.0 in is 2 (omega arith) (omega arith) (omega arith)
        go (inl s) (inr t) (inr u) = let w = l.none s.0 in is 3 (omega arith) (omega arith) (omega arith)
        go (inr s) (inl t) (inl u) = let w = l.one s.0 in is 4 (omega arith) (omega arith) (omega arith)
        go (inr s) (inl t) (inr u) = let w = l.one s.0 in is 5 (omega arith) (omega arith) (omega arith)
        go (inr s) (inr t) (inl u) = let w = l.one s.0 in is 6 (omega arith) (omega arith) (omega arith)
        go (inr s) (inr t) (inr u) = let w = l.one s.0 in is 7 (omega arith) (omega arith) (omega arith)

-- the digits shifted in
pub shifted : (r x y z : ℕ) → r < 2 ^ 29 → x ≤ 1 → y ≤ 1 → z ≤ 1 → bit_or (bit_or (bit_or (r * 2 % 2 ^ 32) x * 2 % 2 ^ 32) y * 2 % 2 ^ 32) z ≡ 8 * r + 4 * x + 2 * y + z
shifted r x y z R X Y Z =
    ap (λ (k : ℕ). bit_or (bit_or (k * 2 % 2 ^ 32) y * 2 % 2 ^ 32) z) (put (2 ^ 32) r x (omega arith) (under X))
    ∙ ap (λ (k : ℕ). bit_or (k * 2 % 2 ^ 32) z) (put (2 ^ 32) (r * 2 + x) y (omega arith) (under Y))
    ∙ put (2 ^ 32) ((r * 2 + x) * 2 + y) z (omega arith) (under Z)
    ∙ sum r x y z
  where
    under : {d : ℕ} → d ≤ 1 → d < 2
    under l = lt_of_le_of_lt l (lit< tt)

    sum : (r x y z : ℕ) → ((r * 2 + x) * 2 + y) * 2 + z ≡ 8 * r + 4 * x + 2 * y + z
    sum r x y z = omega arith

-- 2 * y + 1, by its bits
pub odd : (y : ℕ) → y ≤ 1 → bit_or (y * 2 % 2 ^ 32) 1 ≡ 2 * y + 1
odd y h = put (2 ^ 32) y 1 (omega arith) (lit< tt) ∙ ap (λ (k : ℕ). k + 1) (mul_comm y 2)

pub told_some : (d r t : ℕ) → Told d r t → 0 < d → r < t
told_some d r t (inl s) h = omega arith
told_some d r t (inr s) h = s.1

pub told_le : (d r t v a s : ℕ) → Told d r t → Less v a d s → v ≤ a
told_le d r t v a s (inl h) l = let e = l.none h.0 in omega arith
told_le d r t v a s (inr h) l = let e = l.one h.0 in omega arith

pub told_bit : (d r t : ℕ) → Told d r t → d ≤ 1
told_bit d r t (inl s) = omega arith
told_bit d r t (inr s) = omega arith

-- ---- where the digits begin: number j of a chain is 2 ^ 31 + k, and twice k comes down
join : (a b c : ℕ) → a + b ≡ c → 2 ^ a * 2 ^ b ≡ 2 ^ c
join a b c e = sym (pow-add 2 a b) ∙ ap (λ (z : ℕ). 2 ^ z) e

-- over variables: A and B cut a word, C is the root so far, and D the pairs to come
begins : (k A B C D n : ℕ) → 0 < A → 0 < B → A * B ≡ 2 ^ 32 → B * D ≡ 2 ^ 56 → C * C * D ≡ 2 ^ 56 → 4 ^ n ≡ D → 2 * k < 2 * C * A → (C + 1) * 2 ^ n ≤ 2 ^ 29
    → Lane (2 ^ 56 + k * 2 ^ 25) n (2 * k / A) C (2 * k * B % 2 ^ 32)
begins k A B C D n pos B-pos word low high pairs small room = record {
  same = ap (λ (z : ℕ). ((2 * k / A + C * C) * 2 ^ 32 + 2 * k * B % 2 ^ 32) * z) pairs ∙ ap (λ (z : ℕ). ((2 * k / A + C * C) * 2 ^ 32 + z) * D) cut ∙ whole;
  fits = mod-lt (2 * k * B) (lit< tt);
  less = near (2 * k / A) (2 * C) ((div-lt_iff_lt-mul pos).1 small);
  room = room;
}
  where
    near : (a b : ℕ) → a < b → a ≤ b
    near a b h = omega arith

    spread : (u v A B : ℕ) → (u * A + v) * B ≡ u * (A * B) + v * B
    spread u v A B = add-mul (u * A) v B ∙ ap (λ (z : ℕ). z + v * B) (mul_assoc u A B)

    back : 2 * k / A * A + 2 * k % A ≡ 2 * k
    back = div-add-mod' (2 * k) A

    -- what a word cuts off is the upper digits, which are there already
    cut : 2 * k * B % 2 ^ 32 ≡ 2 * k % A * B
    cut =
        ap (λ (z : ℕ). z * B % 2 ^ 32) (sym back)
        ∙ ap (λ (z : ℕ). z % 2 ^ 32) (spread (2 * k / A) (2 * k % A) A B ∙ ap (λ (z : ℕ). 2 * k / A * z + 2 * k % A * B) word)
        ∙ mul-add-mod_self_right (2 * k / A) (2 ^ 32) (2 * k % A * B)
        ∙ mod-eq_of_lt (lt_of_lt_of_le (mul-lt-mul_of_pos_right (mod-lt (2 * k) pos) B-pos) (le_of_eq word))

    whole : ((2 * k / A + C * C) * 2 ^ 32 + 2 * k % A * B) * D ≡ (2 ^ 56 + k * 2 ^ 25) * 2 ^ 32
    whole = ap (λ (z : ℕ). z * D) sum ∙ parts (2 * k) (C * C) ∙ end
      where
        sum : (2 * k / A + C * C) * 2 ^ 32 + 2 * k % A * B ≡ 2 * k * B + C * C * 2 ^ 32
        sum = move (2 * k / A) (C * C) (2 ^ 32) (2 * k % A * B) ∙ ap (λ (z : ℕ). z + C * C * 2 ^ 32) (ap (λ (z : ℕ). 2 * k / A * z + 2 * k % A * B) (sym word) ∙ sym (spread (2 * k / A) (2 * k % A) A B) ∙ ap (λ (z : ℕ). z * B) back)
          where
            move : (u c P v : ℕ) → (u + c) * P + v ≡ u * P + v + c * P
            move u c P v = omega arith

        parts : (w c : ℕ) → (w * B + c * 2 ^ 32) * D ≡ w * (B * D) + c * D * 2 ^ 32
        parts w c = add-mul (w * B) (c * 2 ^ 32) D ∙ ap (λ (z : ℕ). z + c * 2 ^ 32 * D) (mul_assoc w B D) ∙ ap (λ (z : ℕ). w * (B * D) + z) (native.Mathlib.Nat.mul_right_comm c (2 ^ 32) D)

        end : 2 * k * (B * D) + C * C * D * 2 ^ 32 ≡ (2 ^ 56 + k * 2 ^ 25) * 2 ^ 32
        end = ap (λ (z : ℕ). 2 * k * z + C * C * D * 2 ^ 32) low ∙ ap (λ (z : ℕ). 2 * k * 2 ^ 56 + z * 2 ^ 32) high ∙ last k
          where
            last : (k : ℕ) → 2 * k * 2 ^ 56 + 2 ^ 56 * 2 ^ 32 ≡ (2 ^ 56 + k * 2 ^ 25) * 2 ^ 32
            last k = omega arith

-- as the code has it
module _ (x j : ℕ) (J : j < 15) (lo : 2 ^ 31 ≤ x) (hi : x < 2 ^ 31 + 2 ^ (31 - j)) where
  -- how far the digits move
  pub shift_is : 30 - j * 2 % 2 ^ 64 ≡ 30 - 2 * j
  shift_is = omega arith

  below : x < 2 ^ 32
  below = lt_of_lt_of_le hi (sum (2 ^ (31 - j)) (pow_mono (native.Mathlib.Nat.sub-le 31 j)))
    where
      sum : (p : ℕ) → p ≤ 2 ^ 31 → 2 ^ 31 + p ≤ 2 ^ 32
      sum p h = omega arith

  twice : x * 2 % 2 ^ 32 ≡ 2 * (x - 2 ^ 31)
  twice = omega (arith, below)

  bit : 2 * 2 ^ j % 2 ^ 32 ≡ 2 ^ (1 + j)
  bit = ap (λ (z : ℕ). z % 2 ^ 32) (join 1 j (1 + j) refl) ∙ mod-eq_of_lt (lt_of_le_of_lt (pow_mono (up j J)) (lit< tt))
    where
      up : (j : ℕ) → j < 15 → 1 + j ≤ 15
      up j h = omega arith

  pub lane_chain : Lane (2 ^ 56 + (x - 2 ^ 31) * 2 ^ 25) (27 - j) (x * 2 % 2 ^ 32 / 2 ^ (30 - j * 2 % 2 ^ 64)) (2 * 2 ^ j % 2 ^ 32) (x * 2 % 2 ^ 32 * 2 ^ (32 - (30 - j * 2 % 2 ^ 64)) % 2 ^ 32)
  lane_chain =
      subst (λ (s : ℕ). Lane (2 ^ 56 + (x - 2 ^ 31) * 2 ^ 25) (27 - j) (x * 2 % 2 ^ 32 / 2 ^ s) (2 * 2 ^ j % 2 ^ 32) (x * 2 % 2 ^ 32 * 2 ^ (32 - s) % 2 ^ 32)) (sym shift_is)
      (subst (λ (w : ℕ). Lane (2 ^ 56 + (x - 2 ^ 31) * 2 ^ 25) (27 - j) (w / 2 ^ (30 - 2 * j)) (2 * 2 ^ j % 2 ^ 32) (w * 2 ^ (32 - (30 - 2 * j)) % 2 ^ 32)) (sym twice)
      (subst (λ (r : ℕ). Lane (2 ^ 56 + (x - 2 ^ 31) * 2 ^ 25) (27 - j) (2 * (x - 2 ^ 31) / 2 ^ (30 - 2 * j)) r (2 * (x - 2 ^ 31) * 2 ^ (32 - (30 - 2 * j)) % 2 ^ 32)) (sym bit)
      (begins (x - 2 ^ 31) (2 ^ (30 - 2 * j)) (2 ^ (32 - (30 - 2 * j))) (2 ^ (1 + j)) (2 ^ (54 - 2 * j)) (27 - j) (pow_pos (30 - 2 * j)) (pow_pos (32 - (30 - 2 * j)))
      (join (30 - 2 * j) (32 - (30 - 2 * j)) 32 (omega arith))
      (join (32 - (30 - 2 * j)) (54 - 2 * j) 56 (omega arith))
      (ap (λ (z : ℕ). z * 2 ^ (54 - 2 * j)) (join (1 + j) (1 + j) (2 + 2 * j) (omega arith)) ∙ join (2 + 2 * j) (54 - 2 * j) 56 (omega arith))
      (pow4 (27 - j) ∙ ap (λ (z : ℕ). 2 ^ z) (omega arith))
      small room)))
    where
      small : 2 * (x - 2 ^ 31) < 2 * 2 ^ (1 + j) * 2 ^ (30 - 2 * j)
      small = lt_of_lt_of_le (double (x - 2 ^ 31) (2 ^ (31 - j)) (omega arith)) (le_of_eq (sym (mul_assoc 2 (2 ^ (1 + j)) (2 ^ (30 - 2 * j)) ∙ ap (λ (z : ℕ). 2 * z) (join (1 + j) (30 - 2 * j) (31 - j) (omega arith)))))
        where
          double : (k p : ℕ) → k < p → 2 * k < 2 * p
          double k p h = omega arith

      room : (2 ^ (1 + j) + 1) * 2 ^ (27 - j) ≤ 2 ^ 29
      room = le_trans (le_of_eq (add-mul (2 ^ (1 + j)) 1 (2 ^ (27 - j)) ∙ ap (λ (z : ℕ). z + 1 * 2 ^ (27 - j)) (join (1 + j) (27 - j) 28 (omega arith)))) (sum (2 ^ (27 - j)) (pow_mono (native.Mathlib.Nat.sub-le 27 j)))
        where
          sum : (p : ℕ) → p ≤ 2 ^ 27 → 2 ^ 28 + 1 * p ≤ 2 ^ 29
          sum p h = omega arith

  -- what the digits end in
  pub chain_few : whole_root (2 ^ 56 + (x - 2 ^ 31) * 2 ^ 25) < 2 ^ 29
  chain_few = sq_cancel _ (2 ^ 29) (lt_of_le_of_lt (whole_is (2 ^ 56 + (x - 2 ^ 31) * 2 ^ 25)).low (omega (arith, below)))

  pub chain_same : (n : ℕ) → n ≡ 2 ^ 56 + (x - 2 ^ 31) * 2 ^ 25 → n * 64 ≡ x * 2 ^ 31
  chain_same n e = omega arith

-- what is beyond the square of a whole root
pub rest_small : (n r m : ℕ) → r ≡ whole_root n → m + r * r ≡ n → m ≤ 2 * r
rest_small n r m e s = let h = subst (IsRoot n) (sym e) (whole_is n) in omega (arith, h.high, sq_suc r)

-- ---- number j of a chain is near 2 ^ 31
near_step : (x r p : ℕ) → IsRoot (x * 2 ^ 31) r → 2 ^ 31 ≤ r → x < 2 ^ 31 + 2 * p → r < 2 ^ 31 + p
near_step x r p h lo hi =
    let m = r - 2 ^ 31 in
    let e : 2 ^ 31 + m ≡ r = omega arith in
    let s : r * r ≡ 2 ^ 62 + 2 ^ 32 * m + m * m = ap (λ (z : ℕ). z * z) (sym e) ∙ square m in
    omega (arith, h.low)

half_power : (j : ℕ) → 2 ^ (31 - j) ≤ 2 * 2 ^ (31 - suc j)
half_power j = elim (side j 31) [
  | inl h ↦ le_of_eq (ap (λ (z : ℕ). 2 ^ z) (more j h) ∙ pow-suc 2 (31 - suc j) ∙ mul_comm (2 ^ (31 - suc j)) 2)
  | inr h ↦ le_trans (le_of_eq (ap (λ (z : ℕ). 2 ^ z) (none j h))) (mul-le-mul {n₁ = 1} {n₂ = 2} (lit≤ tt) (pow_pos (31 - suc j)))
]
  where
    more : (j : ℕ) → j < 31 → 31 - j ≡ suc (31 - suc j)
    more j h = omega arith

    none : (j : ℕ) → 31 ≤ j → 31 - j ≡ 0
    none j h = omega arith

pub chain_near : (r : ℕ) → 2 ^ 31 ≤ r → r < 2 ^ 32 → (j : ℕ) → chain r j < 2 ^ 31 + 2 ^ (31 - j)
unfolding chain
chain_near r lo hi zero = hi
chain_near r lo hi (suc j) = near_step (chain r j) (chain r (suc j)) (2 ^ (31 - suc j)) (whole_is (chain r j * 2 ^ 31)) (chain_ge r lo (suc j)) (lt_of_lt_of_le (chain_near r lo hi j) (up (2 ^ (31 - j)) (2 * 2 ^ (31 - suc j)) (half_power j)))
  where
    up : (a b : ℕ) → a ≤ b → 2 ^ 31 + a ≤ 2 ^ 31 + b
    up a b h = omega arith

-- ---- eight chains
-- what lane i is the root of
abbrev sixty_fourth : List ℕ → ℕ → ℕ
sixty_fourth last i = 2 ^ 56 + (get_or last i 0 - 2 ^ 31) * 2 ^ 25

module _ (j : ℕ) (last rem left : List ℕ) (J : j < 15) (n : Near j last) (rems : length rem ≡ 8) (lefts : length left ≡ 8)
    (r : (i : ℕ) → i < 8 → get_or rem i 0 ≡ get_or last i 0 * 2 % 2 ^ 32 / 2 ^ (30 - j * 2 % 2 ^ 64))
    (l : (i : ℕ) → i < 8 → get_or left i 0 ≡ get_or last i 0 * 2 % 2 ^ 32 * 2 ^ (32 - (30 - j * 2 % 2 ^ 64)) % 2 ^ 32) where
  chain_lanes : Lanes (sixty_fourth last) (27 - j) (replicate 8 (2 * 2 ^ j % 2 ^ 32)) rem left
  chain_lanes = record {
    roots = length-replicate {A = ℕ} 8 (2 * 2 ^ j % 2 ^ 32);
    rems = rems;
    lefts = lefts;
    each = λ i h.
        subst (λ (z : ℕ). Lane (sixty_fourth last i) (27 - j) z (get_or (replicate 8 (2 * 2 ^ j % 2 ^ 32)) i 0) (get_or left i 0)) (sym (r i h))
        (subst (λ (z : ℕ). Lane (sixty_fourth last i) (27 - j) (get_or last i 0 * 2 % 2 ^ 32 / 2 ^ (30 - j * 2 % 2 ^ 64)) z (get_or left i 0)) (sym (get_or-replicate {A = ℕ} 8 i (2 * 2 ^ j % 2 ^ 32) 0 h))
        (subst (λ (z : ℕ). Lane (sixty_fourth last i) (27 - j) (get_or last i 0 * 2 % 2 ^ 32 / 2 ^ (30 - j * 2 % 2 ^ 64)) (2 * 2 ^ j % 2 ^ 32) z) (sym (l i h)) (lane_chain (get_or last i 0) j J (n.low i h) (n.high i h))));
  }

  pub chains_begun : Begun (27 - j) (replicate 8 (2 * 2 ^ j % 2 ^ 32)) rem left
  chains_begun = record { of = sixty_fourth last; lanes = chain_lanes }

  pub chains_nearly : (root beyond : List ℕ) → Ended (27 - j) (replicate 8 (2 * 2 ^ j % 2 ^ 32)) rem left root beyond → Nearly last root beyond
  chains_nearly root beyond e = record {
    few = λ i h. lt_of_le_of_lt (le_of_eq (e.is (sixty_fourth last) chain_lanes i h)) (chain_few (get_or last i 0) j J (n.low i h) (n.high i h));
    less = λ i h. rest_small (sixty_fourth last i) (get_or root i 0) (get_or beyond i 0) (e.is (sixty_fourth last) chain_lanes i h) (e.sum (sixty_fourth last) chain_lanes i h);
    same = λ i h. chain_same (get_or last i 0) j J (n.low i h) (n.high i h) _ (e.sum (sixty_fourth last) chain_lanes i h);
  }

-- near their ends
pub near_end : (j : ℕ) (l : List ℕ) → 15 ≤ j → Near j l → Near 15 l
near_end j l h n = record { low = n.low; high = λ i b. lt_of_lt_of_le (n.high i b) (up (2 ^ (31 - j)) (pow_mono (fewer j h))) }
  where
    up : (p : ℕ) → p ≤ 2 ^ 16 → 2 ^ 31 + p ≤ 2 ^ 31 + 2 ^ 16
    up p h = omega arith

    fewer : (j : ℕ) → 15 ≤ j → 31 - j ≤ 16
    fewer j h = omega arith

-- by number j of each
pub near_chains : (first last : List ℕ) (j : ℕ) → ((i : ℕ) → i < 8 → 2 ^ 31 ≤ get_or first i 0) → ((i : ℕ) → i < 8 → get_or first i 0 < 2 ^ 32) → ((i : ℕ) → i < 8 → get_or last i 0 ≡ chain (get_or first i 0) j) → Near j last
near_chains first last j lo hi e = record {
  low = λ i h. le_trans (chain_ge (get_or first i 0) (lo i h) j) (le_of_eq (sym (e i h)));
  high = λ i h. lt_of_le_of_lt (le_of_eq (e i h)) (chain_near (get_or first i 0) (lo i h) (hi i h) j);
}
