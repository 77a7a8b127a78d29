-- Of all 65,536 half floats only 1004 is a denominator of JPEG values: 1/x that rounds to 2040 lies from 2039.5 to 2040.5, and no other half float has such an x. Assumes nothing.
use mathlib.Core.Path.{◌≡◌, refl, sym, ap, ◌∙◌, subst}
use mathlib.Core.Logic.{◌↔◌, ⊎_elim}
use mathlib.Core.Bool.{Bool, true, false, cond, not, true≢false}
use mathlib.Core.List.{List, [], ◌∷◌}
use Prim.Native.Nat.{ℕ, zero, suc, ◌+◌, ◌-◌, ◌*◌, ◌/◌, ◌%◌, ◌^◌, ◌≤◌, ◌<◌, compare}
use native.Mathlib.Nat.{le_trans, le_of_eq, le_of_lt, mul_comm, mul_assoc, mul_left_comm, mul-one, mul-pos, mul-le-mul, mul-le-mul_left, mul-le-mul_right, le_of_mul-le-mul_right, eq-zero-or-pos, zero-lt-suc, zero-mul, lt_irrefl, div-mul-le_self, lt-div-mul-add}
use native.Mathlib.Omega.{arith}
use borrow.Author.Tests.{eqb-true, leb-false}
use lib.Dec.{leb, ltb, eqb, lit≤}
use lib.Pow.{pow_pos, pow_mono}
use lib.Ieee.{Float, nan, inf, fin, binary32, up, down, size, nearest, odd, units, round, div}
use lib.Ieee.Exact.{HasValue}
use lib.Ieee.Positive.{num, den, den_pos}
use lib.Ieee.Fits.{up_pos}
use Rattle.bitstream.specs.Half.{half, size_is}
use Rattle.bitstream.proofs.HalfLaws.{half_exact}
use Rattle.bands.specs.Bands.{one}
use Rattle.bands.proofs.Units.{Units, div_units}
use Rattle.bands.proofs.Position.{rescale}
use Rattle.bands.proofs.Rounding.{largest, Near32, near32}
use Rattle.transform.proofs.Chain.{right}
use Rattle.dequant.specs.Jpeg.{jpeg_numbers, rounds_to, jpeg_denominator, jpeg_answer}
use Rattle.dequant.proofs.JpegLaws.{done_says}
use Rattle.promises.proofs.ByNumber.{jpeg_done}
use Rattle.promises.proofs.JpegNumbers.{Asked, p8}

-- ---- what is below zero rounds to no number
units_below : (q k n : ℕ) → rounds_to (units binary32 true q k) n ≡ false
unfolding units odd rounds_to
units_below q k n = go q (ltb (q * 2 ^ k) (2 ^ 277))
  where
    go : (q : ℕ) (b : Bool) → rounds_to (cond b (odd 25 true q k 149) (inf true)) n ≡ false
    go q false = refl
    go zero true = refl
    go (suc q) true = refl

round_below : (a c n : ℕ) → rounds_to (round binary32 true a c) n ≡ false
unfolding round
round_below a c n =
    let x = a * 2 ^ 149 in
    let k = size (x / c) - 24 in
    units_below (nearest (x / (c * 2 ^ k)) (compare (x % (c * 2 ^ k) * 2) (c * 2 ^ k))) k n

below_none : (x : Float) (a c n : ℕ) → HasValue x true a c → rounds_to (div binary32 one x) n ≡ false
unfolding div rounds_to
below_none nan a c n h = absurd h
below_none (inf s) a c n h = absurd h
below_none (fin false m e) a c n h = absurd (true≢false (sym h.0))
below_none (fin true m e) a c n h = go (eqb m 0)
  where
    go : (b : Bool) → rounds_to (cond b (inf true) (round binary32 true (1 * down e) (m * up e * 1))) n ≡ false
    go true = refl
    go false = round_below (1 * down e) (m * up e * 1) n

-- ---- 1 / 0 is infinite
zero_none : (x : Float) (c n : ℕ) → 0 < c → HasValue x false 0 c → rounds_to (div binary32 one x) n ≡ false
unfolding div rounds_to
zero_none nan c n C h = absurd h
zero_none (inf s) c n C h = absurd h
zero_none (fin true m e) c n C h = absurd (true≢false h.0)
zero_none (fin false zero e) c n C h = refl
zero_none (fin false (suc m) e) c n C h = absurd (lt_irrefl 0 (subst (λ (z : ℕ). 0 < z) (h.1 ∙ zero-mul (down e)) (mul-pos (mul-pos (zero-lt-suc m) (up_pos e)) C)))

-- ---- 2 ^ 24 / a
rounds_says : (r : Float) (n : ℕ) → rounds_to r n ≡ true → (2 * num r + den r) / (2 * den r) ≡ n
unfolding rounds_to
rounds_says nan n e = absurd (true≢false (sym e))
rounds_says (inf s) n e = absurd (true≢false (sym e))
rounds_says (fin s m e) n f = eqb-true ((2 * (m * up e) + down e) / (2 * down e)) n (right (not s) _ f)

-- 2039.5 <= r < 2040.5
half_low : (p d : ℕ) → 0 < d → (2 * p + d) / (2 * d) ≡ 2040 → 4079 * d ≤ 2 * p
half_low p d D e = from p d (subst (λ (z : ℕ). z * (2 * d) ≤ 2 * p + d) e (div-mul-le_self (2 * p + d) (2 * d)))
  where
    from : (p d : ℕ) → 2040 * (2 * d) ≤ 2 * p + d → 4079 * d ≤ 2 * p
    from p d h = omega arith

half_high : (p d : ℕ) → 0 < d → (2 * p + d) / (2 * d) ≡ 2040 → 2 * p < 4081 * d
half_high p d D e = from p d (subst (λ (z : ℕ). 2 * p + d < z * (2 * d) + 2 * d) e (lt-div-mul-add (above d D)))
  where
    above : (d : ℕ) → 0 < d → 0 < 2 * d
    above d D = omega arith

    from : (p d : ℕ) → 2 * p + d < 2040 * (2 * d) + 2 * d → 2 * p < 4081 * d
    from p d h = omega arith

-- r is p / d and near N / (a K), with N = 2 ^ 24 K
most_a : (p d a K u v : ℕ) → 0 < d → 0 < K → p * (a * K) * u ≤ u * K * v * d → 0 < u → 4079 * d ≤ 2 * p → a * 4079 ≤ 2 * v
most_a p d a K u v D k h U l =
    let x : p * (a * K) * u ≡ p * a * (K * u) = simp mul_assoc in
    let y : u * K * v * d ≡ v * d * (K * u) = simp (mul_assoc, mul_comm, mul_left_comm) in
    let i : p * a ≤ v * d = le_of_mul-le-mul_right {k = K * u} (le_trans (le_of_eq (sym x)) (le_trans h (le_of_eq y))) (mul-pos k U) in
    let j : a * 4079 * d ≡ 4079 * d * a = simp (mul_assoc, mul_comm) in
    let m : 2 * p * a ≡ 2 * (p * a) = mul_assoc 2 p a in
    let n : 2 * (v * d) ≡ 2 * v * d = sym (mul_assoc 2 v d) in
    le_of_mul-le-mul_right {k = d} (le_trans (le_of_eq j) (le_trans (mul-le-mul_right a l) (le_trans (le_of_eq m) (le_trans (mul-le-mul_left 2 i) (le_of_eq n))))) D

least_a : (p d a K u v : ℕ) → 0 < d → 0 < K → u * K * v * d ≤ p * (a * K) * u → 0 < u → 2 * p ≤ 4081 * d → 2 * v ≤ a * 4081
least_a p d a K u v D k h U l =
    let x : p * (a * K) * u ≡ p * a * (K * u) = simp mul_assoc in
    let y : u * K * v * d ≡ v * d * (K * u) = simp (mul_assoc, mul_comm, mul_left_comm) in
    let i : v * d ≤ p * a = le_of_mul-le-mul_right {k = K * u} (le_trans (le_of_eq (sym y)) (le_trans h (le_of_eq x))) (mul-pos k U) in
    let j : a * 4081 * d ≡ 4081 * d * a = simp (mul_assoc, mul_comm) in
    let m : 2 * p * a ≡ 2 * (p * a) = mul_assoc 2 p a in
    let n : 2 * (v * d) ≡ 2 * v * d = sym (mul_assoc 2 v d) in
    le_of_mul-le-mul_right {k = d} (le_trans (le_of_eq (sym n)) (le_trans (mul-le-mul_left 2 i) (le_trans (le_of_eq (sym m)) (le_trans (mul-le-mul_right a l) (le_of_eq (sym j)))))) D

size_most : (e t : ℕ) → e < 32 → t < 1024 → size_is e t ≤ 2 ^ 42
size_most zero t h l = le_trans (le_of_lt l) (lit≤ tt)
size_most (suc x) t h l = le_trans (mul-le-mul {n₂ = 2048} {m₂ = 2 ^ 31} (omega arith) (pow_mono {i = x} {j = 31} (omega arith))) (lit≤ tt)

-- a half float a / 2 ^ 24 above zero whose 1/x rounds to 2040
near_2040 : (x : Float) (a : ℕ) → HasValue x false a (2 ^ 24) → 0 < a → a ≤ 2 ^ 42 → rounds_to (div binary32 one x) 2040 ≡ true → (8223 ≤ a) × (a ≤ 8226)
near_2040 x a v A most e =
    let u : Units binary32 x (a * 2 ^ 125) = rescale x a (2 ^ 24) (a * 2 ^ 125) (2 ^ 149) (pow_pos 24) (mul_assoc a (2 ^ 125) (2 ^ 24)) v in
    let r = div binary32 one x in
    let A' : 0 < a * 2 ^ 125 = mul-pos A (pow_pos 125) in
    let n : Near32 (2 ^ 149) (a * 2 ^ 125) r =
    subst (Near32 (2 ^ 149) (a * 2 ^ 125)) (sym (div_units binary32 one x (2 ^ 149) (a * 2 ^ 125) A' (refl, refl) u))
    (near32 (2 ^ 149) (a * 2 ^ 125) A' (le_trans (mul-le-mul_right (2 ^ 125) most) (lit≤ tt)) (le_trans (le_trans (lit≤ tt) (le_of_eq (sym (mul-one (largest * 2 ^ 125))))) (le_trans (mul-le-mul_left (largest * 2 ^ 125) A) (le_of_eq (turn largest (2 ^ 125) a))))) in
    let s = rounds_says r 2040 e in
    let hi = most_a (num r) (den r) a (2 ^ 125) (2 ^ 24) (2 ^ 24 + 1) (den_pos r) (pow_pos 125) n.over (pow_pos 24) (half_low (num r) (den r) (den_pos r) s) in
    let lo = least_a (num r) (den r) a (2 ^ 125) (2 ^ 24) (2 ^ 24 - 1) (den_pos r) (pow_pos 125) n.under (pow_pos 24) (le_of_lt (half_high (num r) (den r) (den_pos r) s)) in
    (from a lo, to a hi)
  where
    turn : (l k a : ℕ) → l * k * a ≡ l * (a * k)
    turn l k a = mul_assoc l k a ∙ ap (λ (z : ℕ). l * z) (mul_comm k a)

    from : (a : ℕ) → 2 * (2 ^ 24 - 1) ≤ a * 4081 → 8223 ≤ a
    from a h = omega arith

    to : (a : ℕ) → a * 4079 ≤ 2 * (2 ^ 24 + 1) → a ≤ 8226
    to a h = omega arith

-- only (1024 + 4) * 2 ^ 3 is such a size
only_size : (e t : ℕ) → e < 32 → t < 1024 → 8223 ≤ size_is e t → size_is e t ≤ 8226 → (e ≡ 4) × (t ≡ 4)
only_size zero t h l a b = absurd (omega arith)
only_size (suc zero) t h l a b = absurd (omega arith)
only_size (suc (suc zero)) t h l a b = absurd (omega arith)
only_size (suc (suc (suc zero))) t h l a b = absurd (omega arith)
only_size (suc (suc (suc (suc zero)))) t h l a b = (refl, omega arith)
only_size (suc (suc (suc (suc (suc x))))) t h l a b = absurd (too_large x t b)
  where
    too_large : (x t : ℕ) → (1024 + t) * 2 ^ suc (suc (suc (suc x))) ≤ 8226 → ⊥
    too_large x t b =
        let p : 2 ^ 4 ≤ 2 ^ suc (suc (suc (suc x))) = pow_mono {i = 4} {j = suc (suc (suc (suc x)))} (omega arith) in
        let q : 1024 * 2 ^ 4 ≤ (1024 + t) * 2 ^ suc (suc (suc (suc x))) = mul-le-mul {n₁ = 1024} {m₁ = 2 ^ 4} (omega arith) p in
        let z : 1024 * 2 ^ 4 ≤ 8226 = le_trans q b in
        omega arith

-- a half float, by its 16 bits, is a denominator of JPEG values only if it is 1004
pub only_1004 : (h : ℕ) → h < 65536 → jpeg_denominator h ≡ true → h ≡ 0x1004
unfolding jpeg_denominator
only_1004 h w e = go (leb 32768 h) refl (half_exact h)
  where
    same : h < 32768 → h / 1024 % 32 ≡ 4 → h % 1024 ≡ 4 → h ≡ 4100
    same l p q = omega arith

    go : (s : Bool) → leb 32768 h ≡ s → HasValue (half h) (leb 32768 h) (size_is (h / 1024 % 32) (h % 1024)) (2 ^ 24) → h ≡ 0x1004
    go true f v = absurd (true≢false (sym e ∙ below_none (half h) (size_is (h / 1024 % 32) (h % 1024)) (2 ^ 24) 2040 (subst (λ (s : Bool). HasValue (half h) s (size_is (h / 1024 % 32) (h % 1024)) (2 ^ 24)) f v)))
    go false f v =
        let v' = subst (λ (s : Bool). HasValue (half h) s (size_is (h / 1024 % 32) (h % 1024)) (2 ^ 24)) f v in
        ⊎_elim
        (λ z. absurd (true≢false (sym e ∙ zero_none (half h) (2 ^ 24) 2040 (pow_pos 24) (subst (λ (n : ℕ). HasValue (half h) false n (2 ^ 24)) z v'))))
        (λ p. let n = near_2040 (half h) (size_is (h / 1024 % 32) (h % 1024)) v' p (size_most (h / 1024 % 32) (h % 1024) (omega arith) (omega arith)) e in
        let o = only_size (h / 1024 % 32) (h % 1024) (omega arith) (omega arith) n.0 n.1 in
        same (leb-false 32768 h f) o.0 o.1)
        (eq-zero-or-pos (size_is (h / 1024 % 32) (h % 1024)))

-- ---- the call
-- rows and samples that pass LENT and ROW, row 0 raw with a denominator of 16 bits: there are JPEG values exactly if that is 1004
pub jpeg_exactly : (rows : List ℕ) (n c d : ℕ) → d < 65536 → Asked rows n c d → (jpeg_numbers (jpeg_answer rows n c) ≡ 0 ∷ []) ↔ (d ≡ 0x1004)
jpeg_exactly rows n c d h a = (
  λ e. only_1004 d h (sym (ap jpeg_denominator a.denominator) ∙ (done_says rows n c (jpeg_done (jpeg_answer rows n c) e)).denominator),
  λ e. p8 rows n c (subst (Asked rows n c) e a),
)
