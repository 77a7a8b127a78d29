-- Denominators of zero or below: by the bits of a half float; and of a row, by its mode. Assumes nothing.
use Rattle.std.proofs.Common.{◌≡◌, ℕ, zero, suc, ◌+◌, ◌*◌, ◌/◌, ◌%◌, ◌^◌, ◌<◌, Bool, true, false, ◌&&◌, ◌||◌, eqb, ltb, leb, List, get_or, ℤ, sym, refl, ap, ◌∙◌, subst, ⊎_elim, lt_irrefl, eq-zero-or-pos, mul-pos, zero-mul, mul-one, arith, lit<, pow_pos, le-ltb, lt-ltb, eq-eqb, ne_eqb, leb-false}
use mathlib.Core.Bool.{and-true}
use borrow.Author.Tests.{lt-leb}
use lib.Ieee.{Float, nan, inf, fin, up, down, le, lt, eq}
use lib.Ieee.Exact.{HasValue}
use lib.Ieee.Fits.{down_pos}
use Rattle.bitstream.specs.Half.{half, size_is}
use Rattle.bitstream.proofs.HalfLaws.{half_exact}
use Rattle.bands.specs.Bands.{nought}
use Rattle.matrix.specs.Raw.{odd_denominator, odd_row}

-- ---- a finite number is zero or below exactly if its sign is set or nothing is there
minus : (n z : ℕ) → z ≡ 0 → (ltb 0 (n + z) || (eqb n z && (false || eqb n 0))) ≡ true
minus zero z e = ap (λ (z : ℕ). ltb 0 (0 + z) || (eqb 0 z && (false || eqb 0 0))) e
minus (suc n) z e = ap (λ (t : Bool). t || (eqb (suc n) z && (false || eqb (suc n) 0))) (lt-ltb 0 (suc n + z) (omega arith))

plus : (n z : ℕ) → z ≡ 0 → (ltb n z || (eqb n z && (true || eqb n 0))) ≡ eqb n 0
plus n z e = ap (λ (z : ℕ). ltb n z || (eqb n z && (true || eqb n 0))) e ∙ ap (λ (t : Bool). t || (eqb n 0 && true)) (le-ltb n 0 (omega arith)) ∙ and-true (eqb n 0)

pub le_nought : (s : Bool) (m : ℕ) (e : ℤ) → le (fin s m e) nought ≡ (s || eqb (m * up e) 0)
unfolding le lt eq
le_nought true m e = minus (m * up e * 1) (0 * 1 * down e) (omega arith)
le_nought false m e = plus (m * up e * 1) (0 * 1 * down e) (omega arith) ∙ ap (λ (n : ℕ). eqb n 0) (mul-one (m * up e))

-- ---- a half float, by its bits
of_value : (x : Float) (s : Bool) (a c : ℕ) → 0 < c → HasValue x s a c → le x nought ≡ (s || eqb a 0)
of_value nan s a c C h = absurd h
of_value (inf t) s a c C h = absurd h
of_value (fin t m e) s a c C h = le_nought t m e ∙ ap (λ (t : Bool). t || eqb (m * up e) 0) h.0 ∙ ap (λ (z : Bool). s || z) (same (m * up e) a h.1)
  where
    same : (n a : ℕ) → n * c ≡ a * down e → eqb n 0 ≡ eqb a 0
    same zero zero g = refl
    same zero (suc a) g = absurd (lt_irrefl 0 (subst (λ (x : ℕ). 0 < x) (sym g ∙ zero-mul c) (mul-pos {m = suc a} (omega arith) (down_pos e))))
    same (suc n) zero g = absurd (lt_irrefl 0 (subst (λ (x : ℕ). 0 < x) (g ∙ zero-mul (down e)) (mul-pos {m = suc n} (omega arith) C)))
    same (suc n) (suc a) g = ne_eqb (suc n) 0 (λ z. omega arith) ∙ sym (ne_eqb (suc a) 0 (λ z. omega arith))

odd_is : (h : ℕ) → odd_denominator h ≡ (leb 32768 h || eqb (size_is (h / 1024 % 32) (h % 1024)) 0)
unfolding odd_denominator
odd_is h = of_value (half h) (leb 32768 h) (size_is (h / 1024 % 32) (h % 1024)) (2 ^ 24) (lit< tt) (half_exact h)

-- zero
pub odd_zero : (h : ℕ) → h ≡ 0 → true ≡ odd_denominator h
odd_zero h e = sym (odd_is h ∙ ap (λ (h : ℕ). leb 32768 h || eqb (size_is (h / 1024 % 32) (h % 1024)) 0) e)

-- else those whose sign is set
some : (h : ℕ) → 0 < h → h < 32768 → 0 < size_is (h / 1024 % 32) (h % 1024)
some h p l = go (h / 1024 % 32) refl
  where
    go : (x : ℕ) → h / 1024 % 32 ≡ x → 0 < size_is x (h % 1024)
    go zero e = omega arith
    go (suc x) e = mul-pos {m = 1024 + h % 1024} (omega arith) (pow_pos x)

pub odd_sign : (h : ℕ) → (h ≡ 0 → ⊥) → leb 32768 h ≡ odd_denominator h
odd_sign h n = sym (odd_is h ∙ go (leb 32768 h) refl)
  where
    none : h < 32768 → size_is (h / 1024 % 32) (h % 1024) ≡ 0 → ⊥
    none l e = lt_irrefl 0 (subst (λ (x : ℕ). 0 < x) e (some h (⊎_elim (λ z. absurd (n z)) (λ p. p) (eq-zero-or-pos h)) l))

    go : (t : Bool) → leb 32768 h ≡ t → (t || eqb (size_is (h / 1024 % 32) (h % 1024)) 0) ≡ t
    go true e = refl
    go false e = ne_eqb (size_is (h / 1024 % 32) (h % 1024)) 0 (none (leb-false 32768 h e))

pub odd_bits : (h : ℕ) → odd_denominator h ≡ (eqb h 0 || leb 32768 h)
odd_bits h = sym (⊎_elim (λ z. ap (λ (t : Bool). t || leb 32768 h) (eq-eqb h 0 z) ∙ odd_zero h z) (λ p. ap (λ (t : Bool). t || leb 32768 h) (ne_eqb h 0 (above p)) ∙ odd_sign h (above p)) (eq-zero-or-pos h))
  where
    above : 0 < h → h ≡ 0 → ⊥
    above p z = omega arith

-- so none above 0000 and below 8000
pub not_odd_lem : (h : ℕ) → 0 < h → h < 32768 → odd_denominator h ≡ false
not_odd_lem h p l = sym (odd_sign h (λ z. lt_irrefl 0 (subst (λ (x : ℕ). 0 < x) z p))) ∙ lt-leb 32768 h l

-- ---- a row
pub plain_row : (row : List ℕ) → (get_or row 0 0 ≡ 7 → ⊥) → odd_row row ≡ false
unfolding odd_row
plain_row row n = ap (λ (b : Bool). b && odd_denominator (get_or row 3 0)) (ne_eqb (get_or row 0 0) 7 n)

pub raw_row_lem : (row : List ℕ) → get_or row 0 0 ≡ 7 → odd_row row ≡ odd_denominator (get_or row 3 0)
unfolding odd_row
raw_row_lem row e = ap (λ (b : Bool). b && odd_denominator (get_or row 3 0)) (eq-eqb (get_or row 0 0) 7 e)
