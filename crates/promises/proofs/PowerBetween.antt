-- The power P lies between 1 and its base, and an interpolated weight between its two bands, up to the accuracy of P. Assumes nothing.
use mathlib.Core.Path.{◌≡◌, sym, ap, ◌∙◌, subst}
use mathlib.Core.Logic.{⊎_elim}
use mathlib.Core.Bool.{false}
use Prim.Native.Nat.{ℕ, ◌+◌, ◌-◌, ◌*◌, ◌^◌, ◌≤◌, ◌<◌}
use native.Mathlib.Nat.{le_refl, le_trans, le_of_eq, le_of_lt, lt_of_lt_of_le, mul_comm, mul_assoc, mul_left_comm, mul-le-mul_left, mul-le-mul_right, mul-le-mul, le_of_mul-le-mul_right, mul-pos}
use lib.Dec.{T, lit<, lit≤}
use lib.Pow.{pow_pos}
use lib.Ieee.{Float, binary32, fits, round, mul, div}
use lib.Ieee.Fits.{mul-fits, div-fits}
use lib.Ieee.Exact.{HasValue}
use lib.Ieee.Positive.{num, den, den_pos, positive, positive-finite, own_value, value→cross, positive_of_value, mul_at}
use Rattle.transform.proofs.Laws.{side}
use Rattle.bands.specs.Power.{normal, P}
use Rattle.bands.proofs.Units.{Units, div_units}
use Rattle.bands.proofs.WholeUnits.{whole_number, plain}
use Rattle.bands.proofs.Rounding.{largest, Near32, near32}
use Rattle.bands.proofs.Powers.{root_small}
use Rattle.bands.proofs.Ranged.{Banded}
use Rattle.bands.proofs.BandRatios.{round_normal}
use Rattle.bands.proofs.Accuracy.{accurate}

-- ---- the power of q = c / b at n / N, which is p / d: at most the larger of 1 and q, times 1.000001, and at least the smaller of both, times 0.999999
over_all : (c b n p d W N : ℕ) → 0 < N → n ≤ N → b ≤ W → c ≤ W → (p * 1000000) ^ N * b ^ n ≤ c ^ n * (d * 1000001) ^ N → p * 1000000 * b ≤ W * (d * 1000001)
over_all c b n p d W N z l h g x =
    root_small (p * 1000000) (d * 1000001) W b N n z l h (le_trans x (mul-le-mul_right ((d * 1000001) ^ N) (native.Mathlib.Nat.pow-le-pow_left g n)))

under_all : (c b n p d L N : ℕ) → 0 < N → n ≤ N → L ≤ b → L ≤ c → c ^ n * (d * 999999) ^ N ≤ (p * 1000000) ^ N * b ^ n → d * 999999 * L ≤ b * (p * 1000000)
under_all c b n p d L N z l h g x =
    root_small (d * 999999) (p * 1000000) b L N n z l h
    (le_trans (mul-le-mul_left ((d * 999999) ^ N) (native.Mathlib.Nat.pow-le-pow_left g n))
    (le_trans (le_of_eq (mul_comm ((d * 999999) ^ N) (c ^ n))) (le_trans x (le_of_eq (mul_comm ((p * 1000000) ^ N) (b ^ n))))))

-- r is above zero, and with q = num q / den q and r = num r / den r: r x 1,000,000 <= W / den q x 1,000,001 for a W that is no less than both, so for the larger of 1 and q; and likewise below
pub record Between (q r : Float) : Type 0 where
  pub above : T (positive r)
  pub over : (W : ℕ) → den q ≤ W → num q ≤ W → num r * 1000000 * den q ≤ W * (den r * 1000001)
  pub under : (L : ℕ) → L ≤ den q → L ≤ num q → den r * 999999 * L ≤ den q * (num r * 1000000)

-- for normal q, P(q, n / 2 ^ 32) is above zero and lies between 1 and q, up to one part in 1,000,000
pub power_between : (q : Float) (n : ℕ) → T (fits binary32 q) → T (normal q) → n < 2 ^ 32 → Between q (P q n)
power_between q n f t h =
    let a = accurate q n f t h in
    record {
      above = a.above;
      over = λ W x y. over_all (num q) (den q) n (num (P q n)) (den (P q n)) W (2 ^ 32) (pow_pos 32) (le_of_lt h) x y a.close.over;
      under = λ L x y. under_all (num q) (den q) n (num (P q n)) (den (P q n)) L (2 ^ 32) (pow_pos 32) (le_of_lt h) x y a.close.under;
    }

-- ---- the weight: a is A units of 2 ^ -149, q is c / b, P is p / d, the weight n / e
ruleset turn = (mul_assoc, mul_comm, mul_left_comm)

up_one : (A W b Hi u v p M N d : ℕ) → 0 < b → A * W * u ≤ Hi * v * b → p * M * b ≤ W * (d * N) → A * p * M * u ≤ Hi * v * d * N
up_one A W b Hi u v p M N d B h k =
    let i : A * p * M * u * b ≡ p * M * b * (A * u) = simp turn in
    let j : W * (d * N) * (A * u) ≡ A * W * u * (d * N) = simp turn in
    let l : Hi * v * b * (d * N) ≡ Hi * v * d * N * b = simp turn in
    le_of_mul-le-mul_right (le_trans (le_of_eq i) (le_trans (mul-le-mul_right (A * u) k) (le_trans (le_of_eq j) (le_trans (mul-le-mul_right (d * N) h) (le_of_eq l))))) B

up_two : (n K d u A p v e M N O Hi : ℕ) → 0 < d → 0 < u → n * (K * d) * u ≤ A * p * v * e → A * p * M * u ≤ Hi * v * d * N → N * v * v ≤ O * (u * u) → n * K * M ≤ Hi * e * O
up_two n K d u A p v e M N O Hi D U h k l =
    let a : n * K * M * (d * u * u) ≡ n * (K * d) * u * (M * u) = simp turn in
    let b : A * p * v * e * (M * u) ≡ A * p * M * u * (v * e) = simp turn in
    let c : Hi * v * d * N * (v * e) ≡ N * v * v * (Hi * e * d) = simp turn in
    let f : O * (u * u) * (Hi * e * d) ≡ Hi * e * O * (d * u * u) = simp turn in
    le_of_mul-le-mul_right
    (le_trans (le_of_eq a)
    (le_trans (mul-le-mul_right (M * u) h)
    (le_trans (le_of_eq b)
    (le_trans (mul-le-mul_right (v * e) k)
    (le_trans (le_of_eq c) (le_trans (mul-le-mul_right (Hi * e * d) l) (le_of_eq f)))))))
    (mul-pos (mul-pos D U) U)

down_one : (A L b Lo u v p M N d : ℕ) → 0 < b → Lo * v * b ≤ A * L * u → d * N * L ≤ b * (p * M) → Lo * v * d * N ≤ A * p * M * u
down_one A L b Lo u v p M N d B h k =
    let i : Lo * v * d * N * b ≡ Lo * v * b * (d * N) = simp turn in
    let j : A * L * u * (d * N) ≡ d * N * L * (A * u) = simp turn in
    let l : b * (p * M) * (A * u) ≡ A * p * M * u * b = simp turn in
    le_of_mul-le-mul_right (le_trans (le_of_eq i) (le_trans (mul-le-mul_right (d * N) h) (le_trans (le_of_eq j) (le_trans (mul-le-mul_right (A * u) k) (le_of_eq l))))) B

down_two : (n K d u A p v e M N O Lo : ℕ) → 0 < d → 0 < u → A * p * v * e ≤ n * (K * d) * u → Lo * v * d * N ≤ A * p * M * u → O * (u * u) ≤ N * v * v → Lo * e * O ≤ n * K * M
down_two n K d u A p v e M N O Lo D U h k l =
    let a : Lo * e * O * (d * u * u) ≡ O * (u * u) * (Lo * e * d) = simp turn in
    let b : N * v * v * (Lo * e * d) ≡ Lo * v * d * N * (v * e) = simp turn in
    let c : A * p * M * u * (v * e) ≡ A * p * v * e * (M * u) = simp turn in
    let f : n * (K * d) * u * (M * u) ≡ n * K * M * (d * u * u) = simp turn in
    le_of_mul-le-mul_right
    (le_trans (le_of_eq a)
    (le_trans (mul-le-mul_right (Lo * e * d) l)
    (le_trans (le_of_eq b)
    (le_trans (mul-le-mul_right (v * e) k)
    (le_trans (le_of_eq c) (le_trans (mul-le-mul_right (M * u) h) (le_of_eq f)))))))
    (mul-pos (mul-pos D U) U)

-- at units of 2 ^ -149, between lo and hi up to two parts in 1,000,000
pub record Within (lo hi : ℕ) (z : Float) : Type 0 where
  pub at : ℕ
  pub value : Units binary32 z at
  pub most : at * 1000000 ≤ hi * 1000002
  pub least : lo * 999998 ≤ at * 1000000

-- bounds that leave room for rounding: from 2 ^ -124 to 2 ^ 126, and not more than 2 ^ 126 apart
pub record Room (lo hi : ℕ) : Type 0 where
  pub low : 2 ^ 25 ≤ lo
  pub high : hi ≤ 2 ^ 275
  pub near : hi ≤ lo * 2 ^ 126

under_scaled : (X d k a c : ℕ) → 0 < k → X * k ≤ a * d → a ≤ c * k → X ≤ c * d
under_scaled X d k a c K h l = le_of_mul-le-mul_right (le_trans h (le_trans (mul-le-mul_right d l) (le_of_eq (native.Mathlib.Nat.mul_right_comm c k d)))) K

over_scaled : (X d k a m D : ℕ) → 0 < k → a * d ≤ X * k → D * k ≤ a * m → D * d ≤ X * m
over_scaled X d k a m D K h l =
    let i : D * d * k ≡ D * k * d = simp turn in
    let j : a * m * d ≡ a * d * m = simp turn in
    let n : X * k * m ≡ X * m * k = simp turn in
    le_of_mul-le-mul_right (le_trans (le_of_eq i) (le_trans (mul-le-mul_right d l) (le_trans (le_of_eq j) (le_trans (mul-le-mul_right m h) (le_of_eq n))))) K

module _ (lo hi : ℕ) (room : Room lo hi) (a b : Float) (x : Banded lo hi a) (y : Banded lo hi b) where
  abbrev A : ℕ
  A = x.at

  abbrev B : ℕ
  B = y.at

  above : (z : ℕ) → lo ≤ z → 0 < z
  above z h = lt_of_lt_of_le (pow_pos 25) (le_trans room.low h)

  apart : (i j : ℕ) → i ≤ hi → lo ≤ j → i ≤ j * 2 ^ 126
  apart i j h k = le_trans h (le_trans room.near (mul-le-mul_right (2 ^ 126) k))

  apart_too : (i j : ℕ) → i ≤ hi → lo ≤ j → i ≤ largest * j
  apart_too i j h k = le_trans (apart i j h k) (le_trans (mul-le-mul_left j (lit≤ tt)) (le_of_eq (mul_comm j largest)))

  q_is : div binary32 b a ≡ round binary32 false B A
  q_is = div_units binary32 b a B A (above A x.least) y.value x.value

  -- the ratio of two such bands is normal
  pub ratio_is_normal : T (normal (div binary32 b a))
  ratio_is_normal = subst (λ (z : Float). T (normal z)) (sym q_is) (round_normal B A (above A x.least) (apart A B x.most y.least) (apart_too B A y.most x.least))

  q_near : Near32 B A (div binary32 b a)
  q_near = subst (Near32 B A) (sym q_is) (near32 B A (above A x.least) (apart A B x.most y.least) (apart_too B A y.most x.least))

  a_above : T (positive a)
  a_above = positive_of_value a A (2 ^ 149) x.value (above A x.least)

  module _ (k : ℕ) (K : k < 2 ^ 32) where
    r_between : Between (div binary32 b a) (P (div binary32 b a) k)
    r_between = power_between (div binary32 b a) k (div-fits binary32 b a) ratio_is_normal K

    product_over : A * num (P (div binary32 b a) k) * 1000000 * 2 ^ 24 ≤ hi * (2 ^ 24 + 1) * den (P (div binary32 b a) k) * 1000001
    product_over = ⊎_elim small large (side (num (div binary32 b a)) (den (div binary32 b a)))
      where
        flip : (s u v h t : ℕ) → s ≤ h → u ≤ v → s * t * u ≤ h * v * t
        flip s u v h t i j = le_trans (le_of_eq (native.Mathlib.Nat.mul_right_comm s t u)) (mul-le-mul_right t (mul-le-mul i j))

        small : num (div binary32 b a) < den (div binary32 b a) → A * num (P (div binary32 b a) k) * 1000000 * 2 ^ 24 ≤ hi * (2 ^ 24 + 1) * den (P (div binary32 b a) k) * 1000001
        small h =
            up_one A (den (div binary32 b a)) (den (div binary32 b a)) hi (2 ^ 24) (2 ^ 24 + 1) (num (P (div binary32 b a) k)) 1000000 1000001 (den (P (div binary32 b a) k)) (den_pos (div binary32 b a))
            (flip A (2 ^ 24) (2 ^ 24 + 1) hi (den (div binary32 b a)) x.most (lit≤ tt))
            (r_between.over (den (div binary32 b a)) (le_refl (den (div binary32 b a))) (le_of_lt h))

        large : den (div binary32 b a) ≤ num (div binary32 b a) → A * num (P (div binary32 b a) k) * 1000000 * 2 ^ 24 ≤ hi * (2 ^ 24 + 1) * den (P (div binary32 b a) k) * 1000001
        large h =
            up_one A (num (div binary32 b a)) (den (div binary32 b a)) hi (2 ^ 24) (2 ^ 24 + 1) (num (P (div binary32 b a) k)) 1000000 1000001 (den (P (div binary32 b a) k)) (den_pos (div binary32 b a))
            (le_trans (le_of_eq (ap (λ (z : ℕ). z * 2 ^ 24) (mul_comm A (num (div binary32 b a))))) (le_trans q_near.over (mul-le-mul_right (den (div binary32 b a)) (mul-le-mul_right (2 ^ 24 + 1) y.most))))
            (r_between.over (num (div binary32 b a)) h (le_refl (num (div binary32 b a))))

    product_under : lo * (2 ^ 24 - 1) * den (P (div binary32 b a) k) * 999999 ≤ A * num (P (div binary32 b a) k) * 1000000 * 2 ^ 24
    product_under = ⊎_elim small large (side (num (div binary32 b a)) (den (div binary32 b a)))
      where
        flip : (s u v h t : ℕ) → h ≤ s → v ≤ u → h * v * t ≤ s * t * u
        flip s u v h t i j = le_trans (mul-le-mul_right t (mul-le-mul i j)) (le_of_eq (native.Mathlib.Nat.mul_right_comm s u t))

        small : num (div binary32 b a) < den (div binary32 b a) → lo * (2 ^ 24 - 1) * den (P (div binary32 b a) k) * 999999 ≤ A * num (P (div binary32 b a) k) * 1000000 * 2 ^ 24
        small h =
            down_one A (num (div binary32 b a)) (den (div binary32 b a)) lo (2 ^ 24) (2 ^ 24 - 1) (num (P (div binary32 b a) k)) 1000000 999999 (den (P (div binary32 b a) k)) (den_pos (div binary32 b a))
            (le_trans (mul-le-mul_right (den (div binary32 b a)) (mul-le-mul_right (2 ^ 24 - 1) y.least)) (le_trans q_near.under (le_of_eq (ap (λ (z : ℕ). z * 2 ^ 24) (mul_comm (num (div binary32 b a)) A)))))
            (r_between.under (num (div binary32 b a)) (le_of_lt h) (le_refl (num (div binary32 b a))))

        large : den (div binary32 b a) ≤ num (div binary32 b a) → lo * (2 ^ 24 - 1) * den (P (div binary32 b a) k) * 999999 ≤ A * num (P (div binary32 b a) k) * 1000000 * 2 ^ 24
        large h =
            down_one A (den (div binary32 b a)) (den (div binary32 b a)) lo (2 ^ 24) (2 ^ 24 - 1) (num (P (div binary32 b a) k)) 1000000 999999 (den (P (div binary32 b a) k)) (den_pos (div binary32 b a))
            (flip A (2 ^ 24) (2 ^ 24 - 1) lo (den (div binary32 b a)) x.least (lit≤ tt))
            (r_between.under (den (div binary32 b a)) (le_refl (den (div binary32 b a))) h)

    regroup : (X M u : ℕ) → X * (M * u) ≡ X * M * u
    regroup X M u = sym (mul_assoc X M u)

    split : (h v d N : ℕ) → h * v * d * N ≡ h * (v * N) * d
    split h v d N = simp turn

    w_low : 2 ^ 149 * den (P (div binary32 b a) k) ≤ A * num (P (div binary32 b a) k) * 2 ^ 126
    w_low =
        over_scaled (A * num (P (div binary32 b a) k)) (den (P (div binary32 b a) k)) (1000000 * 2 ^ 24) (2 ^ 25 * ((2 ^ 24 - 1) * 999999)) (2 ^ 126) (2 ^ 149) (lit< tt)
        (le_trans (mul-le-mul_right (den (P (div binary32 b a) k)) (mul-le-mul_right ((2 ^ 24 - 1) * 999999) room.low))
        (le_trans (le_of_eq (sym (split lo (2 ^ 24 - 1) (den (P (div binary32 b a) k)) 999999))) (le_trans product_under (le_of_eq (sym (regroup (A * num (P (div binary32 b a) k)) 1000000 (2 ^ 24)))))))
        (lit≤ tt)

    w_high : A * num (P (div binary32 b a) k) ≤ largest * (2 ^ 149 * den (P (div binary32 b a) k))
    w_high =
        le_trans
        (under_scaled (A * num (P (div binary32 b a) k)) (den (P (div binary32 b a) k)) (1000000 * 2 ^ 24) (2 ^ 275 * ((2 ^ 24 + 1) * 1000001)) (largest * 2 ^ 149) (lit< tt)
        (le_trans (le_of_eq (regroup (A * num (P (div binary32 b a) k)) 1000000 (2 ^ 24)))
        (le_trans product_over
        (le_trans (le_of_eq (split hi (2 ^ 24 + 1) (den (P (div binary32 b a) k)) 1000001)) (mul-le-mul_right (den (P (div binary32 b a) k)) (mul-le-mul_right ((2 ^ 24 + 1) * 1000001) room.high)))))
        (lit≤ tt))
        (le_of_eq (mul_assoc largest (2 ^ 149) (den (P (div binary32 b a) k))))

    w_is : mul binary32 a (P (div binary32 b a) k) ≡ round binary32 false (A * num (P (div binary32 b a) k)) (2 ^ 149 * den (P (div binary32 b a) k))
    w_is = mul_at binary32 a (P (div binary32 b a) k) A (2 ^ 149) (num (P (div binary32 b a) k)) (den (P (div binary32 b a) k)) a_above r_between.above (pow_pos 149) (den_pos (P (div binary32 b a) k)) x.value (own_value (P (div binary32 b a) k) r_between.above)

    w_near : Near32 (A * num (P (div binary32 b a) k)) (2 ^ 149 * den (P (div binary32 b a) k)) (mul binary32 a (P (div binary32 b a) k))
    w_near =
        subst (Near32 (A * num (P (div binary32 b a) k)) (2 ^ 149 * den (P (div binary32 b a) k))) (sym w_is)
        (near32 (A * num (P (div binary32 b a) k)) (2 ^ 149 * den (P (div binary32 b a) k)) (mul-pos (pow_pos 149) (den_pos (P (div binary32 b a) k))) w_low w_high)

    -- a times P(b / a, k / 2 ^ 32) lies between the bounds of a and b, up to two parts in 1,000,000
    pub segment_within : Within lo hi (mul binary32 a (P (div binary32 b a) k))
    segment_within =
        let w = mul binary32 a (P (div binary32 b a) k) in
        let g = whole_number w (mul-fits binary32 a (P (div binary32 b a) k)) (positive-finite w w_near.above) in
        let v : HasValue w false g.g (2 ^ 149) = plain w g.sign g.g (2 ^ 149) w_near.above g.value in
        let e : num w * 2 ^ 149 ≡ g.g * den w = value→cross w g.g (2 ^ 149) v in
        record {
          at = g.g;
          value = v;
          most =
              le_of_mul-le-mul_right {k = den w}
              (le_trans (le_of_eq (native.Mathlib.Nat.mul_right_comm g.g 1000000 (den w) ∙ ap (λ (z : ℕ). z * 1000000) (sym e)))
              (le_trans (up_two (num w) (2 ^ 149) (den (P (div binary32 b a) k)) (2 ^ 24) A (num (P (div binary32 b a) k)) (2 ^ 24 + 1) (den w) 1000000 1000001 1000002 hi (den_pos (P (div binary32 b a) k)) (pow_pos 24) w_near.over product_over (lit≤ tt))
              (le_of_eq (native.Mathlib.Nat.mul_right_comm hi (den w) 1000002))))
              (den_pos w);
          least =
              le_of_mul-le-mul_right {k = den w}
              (le_trans (le_of_eq (native.Mathlib.Nat.mul_right_comm lo 999998 (den w)))
              (le_trans (down_two (num w) (2 ^ 149) (den (P (div binary32 b a) k)) (2 ^ 24) A (num (P (div binary32 b a) k)) (2 ^ 24 - 1) (den w) 1000000 999999 999998 lo (den_pos (P (div binary32 b a) k)) (pow_pos 24) w_near.under product_under (lit≤ tt))
              (le_of_eq (ap (λ (z : ℕ). z * 1000000) e ∙ native.Mathlib.Nat.mul_right_comm g.g (den w) 1000000))))
              (den_pos w);
        }
