-- The whole root, digit by digit: each turn brings two digits of a number down. One law over the word, for one root and for each of eight. Assumes nothing.
use Rattle.std.proofs.Common.{◌≡◌, ℕ, suc, ◌+◌, ◌-◌, ◌*◌, ◌/◌, ◌%◌, ◌^◌, ◌<◌, ◌≤◌, Bool, true, false, cond, not, T, ltb, sym, refl, ap, ◌∙◌, subst, zero-le, le_trans, le_of_eq, lt_of_lt_of_le, le-add_right, lt_of_le_of_lt, add-zero, mul-le-mul_right, mod-lt, mod-eq_of_lt, mul_assoc, mul_comm, div-lt_iff_lt-mul, mul-le-mul, le_antisymm, lt_of_mul-lt-mul_right, pow-suc, div-add-mod', mul-one, le_of_mul-le-mul_right, arith, lit<, lit≤, ltb→lt, nltb→le, pow_pos}
use native.Mathlib.Nat.{mul-add-mod_self_right}
use lib.Bits.{bit_or, or_shifted}
use mir.Val.{bool_byte}
use Rattle.bands.specs.Root.{whole_root}
use Rattle.bands.specs.Views.{Down}
use Rattle.bands.proofs.Roots.{root_by, sq_suc, sq_dbl}

-- ---- a turn, where `two` comes down and l is left
brought : (X P Q two l left : ℕ) → P ≡ 4 * Q → left ≡ two * Q + l → (4 * X + two) * P + 4 * l ≡ (X * P + left) * 4
brought X P Q two l left p e = let a : two * P ≡ two * (4 * Q) = ap (λ (z : ℕ). two * z) p in omega arith

go_same : (X X' P Q two l left k N : ℕ) → P ≡ 4 * Q → left ≡ two * Q + l → X' ≡ 4 * X + two → (X * P + left) * 4 ^ suc k ≡ N → (X' * P + 4 * l) * 4 ^ k ≡ N
go_same X X' P Q two l left k N p e x s =
    ap (λ (z : ℕ). (z * P + 4 * l) * 4 ^ k) x
    ∙ ap (λ (z : ℕ). z * 4 ^ k) (brought X P Q two l left p e)
    ∙ mul_assoc (X * P + left) 4 (4 ^ k)
    ∙ ap (λ (z : ℕ). (X * P + left) * z) (mul_comm 4 (4 ^ k) ∙ sym (pow-suc 4 k))
    ∙ s

go_room : (r r' k L : ℕ) → r' ≤ 2 * r + 1 → (r + 1) * 2 ^ suc k ≤ L → (r' + 1) * 2 ^ k ≤ L
go_room r r' k L h s =
    le_trans (mul-le-mul_right (2 ^ k) (up r r' h)) (le_trans (le_of_eq (mul_assoc (r + 1) 2 (2 ^ k) ∙ ap (λ (z : ℕ). (r + 1) * z) (mul_comm 2 (2 ^ k) ∙ sym (pow-suc 2 k)))) s)
  where
    up : (r r' : ℕ) → r' ≤ 2 * r + 1 → r' + 1 ≤ (r + 1) * 2
    up r r' h = omega arith

module _ (P Q top N k rem root left two l : ℕ) (p : P ≡ 4 * Q) (e : left ≡ two * Q + l) (small : two < 4) (rest : l < Q) (d : Down P top N (suc k) rem root left) where
  one_square : root * 4 < rem * 4 + two → rem * 4 + two - root * 4 - 1 + (root * 2 + 1) * (root * 2 + 1) ≡ 4 * (rem + root * root) + two
  one_square h = omega (arith, sq_suc (root * 2), sq_dbl root)

  down_one : root * 4 < rem * 4 + two → Down P top N k (rem * 4 + two - root * 4 - 1) (root * 2 + 1) (4 * l)
  down_one h = record {
    same = go_same (rem + root * root) _ P Q two l left k (N * P) p e (one_square h) d.same;
    fits = omega arith;
    less = omega (arith, d.less);
    room = go_room root (root * 2 + 1) k (2 ^ top) (omega arith) d.room;
  }

  zero_square : rem * 4 + two + root * 2 * (root * 2) ≡ 4 * (rem + root * root) + two
  zero_square = omega (arith, sq_dbl root)

  down_zero : rem * 4 + two ≤ root * 4 → Down P top N k (rem * 4 + two) (root * 2) (4 * l)
  down_zero h = record {
    same = go_same (rem + root * root) _ P Q two l left k (N * P) p e zero_square d.same;
    fits = omega arith;
    less = omega arith;
    room = go_room root (root * 2) k (2 ^ top) (omega arith) d.room;
  }

-- ---- none are to come: the root, and what is beyond its square
module _ (P top N rem root left : ℕ) (d : Down P top N 0 rem root left) where
  flat : (rem + root * root) * P + left ≡ N * P
  flat = sym (mul-one ((rem + root * root) * P + left)) ∙ d.same

  pub down_sum : rem + root * root ≡ N
  down_sum = le_antisymm (le_of_mul-le-mul_right (over (rem + root * root) flat) pos) (near (rem + root * root) (lt_of_mul-lt-mul_right P (under (rem + root * root) flat)))
    where
      under : (X : ℕ) → X * P + left ≡ N * P → N * P < (X + 1) * P
      under X f = omega (arith, d.fits)

      over : (X : ℕ) → X * P + left ≡ N * P → X * P ≤ N * P
      over X f = omega arith

      pos : 0 < P
      pos = lt_of_le_of_lt zero-le d.fits

      near : (X : ℕ) → N < X + 1 → N ≤ X
      near X h = omega arith

  pub down_all : root ≡ whole_root N
  down_all = root_by N root (record { low = omega (arith, down_sum); high = omega (arith, down_sum, sq_suc root, d.less) })

-- ---- the same in words: a shift to the left is a product that the word cuts off, and a bit is shifted in where a 0 stands
half : (r P : ℕ) → r * 4 < P → r * 2 < P
half r P h = omega arith

pub put : (P r d : ℕ) → r * 2 < P → d < 2 → bit_or (r * 2 % P) d ≡ r * 2 + d
put P r d h l = ap (λ (z : ℕ). bit_or z d) (mod-eq_of_lt h) ∙ or_shifted r 1 d l

-- a compare as a digit
pub byte : (b : Bool) → bool_byte b ≡ cond {A = ℕ} b 1 0
byte true = refl
byte false = refl

-- rem with two digits of `left` brought down, and four times the root, in words of P ≡ 4 * Q
abbrev pub brings : ℕ → ℕ → ℕ → ℕ → ℕ
brings P Q rem left = bit_or (rem * 4 % P) (left / Q)

abbrev pub fourfold : ℕ → ℕ → ℕ
fourfold P root = root * 4 % P

module _ (P Q top N n rem root left : ℕ) (p : P ≡ 4 * Q) (q : 0 < Q) (wide : 8 * 2 ^ top ≤ P) (K : 0 < n) (d : Down P (suc top) N n rem root left) where
  at_suc : Down P (suc top) N (suc (n - 1)) rem root left
  at_suc = let back : suc (n - 1) ≡ n = omega arith in subst (λ (k : ℕ). Down P (suc top) N k rem root left) (sym back) d

  -- what is brought down, and what is left
  two_small : left / Q < 4
  two_small = (div-lt_iff_lt-mul q).1 (lt_of_lt_of_le d.fits (le_of_eq p))

  split : left ≡ left / Q * Q + left % Q
  split = sym (div-add-mod' left Q)

  drop : left * 4 % P ≡ 4 * (left % Q)
  drop =
      ap (λ (z : ℕ). z * 4 % P) split
      ∙ ap (λ (z : ℕ). z % P) (spread (left / Q) Q (left % Q) P p)
      ∙ mul-add-mod_self_right (left / Q) P (4 * (left % Q))
      ∙ mod-eq_of_lt (lt_of_lt_of_le (four (left % Q) Q (mod-lt left q)) (le_of_eq (sym p)))
    where
      spread : (u Q l P : ℕ) → P ≡ 4 * Q → (u * Q + l) * 4 ≡ u * P + 4 * l
      spread u Q l P p = let a : u * P ≡ u * (4 * Q) = ap (λ (z : ℕ). u * z) p in omega arith

      four : (l Q : ℕ) → l < Q → 4 * l < 4 * Q
      four l Q h = omega arith

  -- nothing is cut off
  pub small : root + 1 ≤ 2 ^ top
  small = le_of_mul-le-mul_right (le_trans (mul-le-mul {n₁ = root + 1} {n₂ = root + 1} (le_of_eq refl) (two (n - 1))) (le_trans at_suc.room (le_of_eq (pow-suc 2 top)))) (lit< tt)
    where
      two : (k : ℕ) → 2 ≤ 2 ^ suc k
      two k = le_trans (mul-le-mul_right 2 (pow_pos k)) (le_of_eq (sym (pow-suc 2 k)))

  rem_fits : rem * 4 + left / Q < P
  rem_fits = omega (arith, small, two_small, d.less, wide)

  root_fits : root * 4 < P
  root_fits = omega (arith, small, wide)

  pub come : brings P Q rem left ≡ rem * 4 + left / Q
  come = ap (λ (z : ℕ). bit_or z (left / Q)) (mod-eq_of_lt (lt_of_le_of_lt (le-add_right (rem * 4) (left / Q)) rem_fits)) ∙ or_shifted rem 2 (left / Q) two_small

  pub quad : fourfold P root ≡ root * 4
  quad = mod-eq_of_lt root_fits

  put_one : bit_or (root * 2 % P) 1 ≡ root * 2 + 1
  put_one = put P root 1 (half root P root_fits) (lit< tt)

  put_zero : bit_or (root * 2 % P) 0 ≡ root * 2
  put_zero = put P root 0 (half root P root_fits) (lit< tt) ∙ add-zero (root * 2)

  -- the turn that the code takes
  turn_one : fourfold P root < brings P Q rem left → Down P (suc top) N (n - 1) (brings P Q rem left - fourfold P root - 1) (bit_or (root * 2 % P) 1) (left * 4 % P)
  turn_one h =
      let a = brings P Q rem left in
      subst (λ (z : ℕ). Down P (suc top) N (n - 1) (a - fourfold P root - 1) (bit_or (root * 2 % P) 1) z) (sym drop)
      (subst (λ (z : ℕ). Down P (suc top) N (n - 1) (a - fourfold P root - 1) z (4 * (left % Q))) (sym put_one)
      (subst (λ (z : ℕ). Down P (suc top) N (n - 1) (z - fourfold P root - 1) (root * 2 + 1) (4 * (left % Q))) (sym come)
      (subst (λ (z : ℕ). Down P (suc top) N (n - 1) (rem * 4 + left / Q - z - 1) (root * 2 + 1) (4 * (left % Q))) (sym quad)
      (down_one P Q (suc top) N (n - 1) rem root left (left / Q) (left % Q) p split two_small (mod-lt left q) at_suc (lt_of_le_of_lt (le_of_eq (sym quad)) (lt_of_lt_of_le h (le_of_eq come)))))))

  turn_zero : brings P Q rem left ≤ fourfold P root → Down P (suc top) N (n - 1) (brings P Q rem left) (bit_or (root * 2 % P) 0) (left * 4 % P)
  turn_zero h =
      let a = brings P Q rem left in
      subst (λ (z : ℕ). Down P (suc top) N (n - 1) a (bit_or (root * 2 % P) 0) z) (sym drop)
      (subst (λ (z : ℕ). Down P (suc top) N (n - 1) a z (4 * (left % Q))) (sym put_zero)
      (subst (λ (z : ℕ). Down P (suc top) N (n - 1) z (root * 2) (4 * (left % Q))) (sym come)
      (down_zero P Q (suc top) N (n - 1) rem root left (left / Q) (left % Q) p split two_small (mod-lt left q) at_suc (le_trans (le_of_eq (sym come)) (le_trans h (le_of_eq quad))))))

  -- by the flag of the compare: o is what is beyond the square then, g the digit
  pub turn : (o g : ℕ)
      → o ≡ cond (ltb (fourfold P root) (brings P Q rem left)) (brings P Q rem left - fourfold P root - 1) (brings P Q rem left)
      → g ≡ cond (ltb (fourfold P root) (brings P Q rem left)) 1 0
      → Down P (suc top) N (n - 1) o (bit_or (root * 2 % P) g) (left * 4 % P)
  turn o g e f =
      let a = brings P Q rem left in
      let t = fourfold P root in
      subst (λ (z : ℕ). Down P (suc top) N (n - 1) z (bit_or (root * 2 % P) g) (left * 4 % P)) (sym e)
      (subst (λ (z : ℕ). Down P (suc top) N (n - 1) (cond (ltb t a) (a - t - 1) a) (bit_or (root * 2 % P) z) (left * 4 % P)) (sym f) (go (ltb t a) (ltb→lt t a) (nltb→le t a)))
    where
      go : (b : Bool) → (T b → fourfold P root < brings P Q rem left) → (T (not b) → brings P Q rem left ≤ fourfold P root)
          → Down P (suc top) N (n - 1) (cond b (brings P Q rem left - fourfold P root - 1) (brings P Q rem left)) (bit_or (root * 2 % P) (cond b 1 0)) (left * 4 % P)
      go true h g = turn_one (h tt)
      go false h g = turn_zero (g tt)

-- of n turns i are done, and one more
pub fewer : (P top N n i rem root left : ℕ) → Down P top N (n - i - 1) rem root left → Down P top N (n - (i + 1)) rem root left
fewer P top N n i rem root left d = let e : n - i - 1 ≡ n - (i + 1) = omega arith in subst (λ (k : ℕ). Down P top N k rem root left) e d

-- ---- one root of 64 digits, from its start to its end
pub down_start : (x : ℕ) → x < 2 ^ 64 → Down (2 ^ 64) 32 x 32 0 0 x
down_start x h = record { same = scale x; fits = h; less = zero-le; room = lit≤ tt }
  where
    scale : (x : ℕ) → ((0 + 0 * 0) * 2 ^ 64 + x) * 4 ^ 32 ≡ x * 2 ^ 64
    scale x = omega arith

pub down_end : (N n rem root left : ℕ) → n ≤ 0 → Down (2 ^ 64) 32 N n rem root left → root ≡ whole_root N
down_end N n rem root left z d = down_all (2 ^ 64) 32 N rem root left (subst (λ (k : ℕ). Down (2 ^ 64) 32 N k rem root left) (le_antisymm z zero-le) d)
