-- The laws of the sum: one part behind another, one weight more, and how it wraps round. Assumes nothing.
use Rattle.std.proofs.Common.{◌≡◌, ℕ, suc, ◌+◌, ◌-◌, ◌*◌, ◌%◌, ◌^◌, ◌<◌, ◌≤◌, true, true≢false, List, [], ◌∷◌, ◌++◌, length, get_or, take, sym, refl, ap, ◌∙◌, le_trans, add-zero, mod-lt, mod-eq_of_lt, mul-le-mul, add-one, arith, lit<, lit≤, length-take-le, take_all, take-suc}
use native.Mathlib.Nat.{mod-add-mod, add-mod_right}
use lib.Ieee.{Float, nan, inf, fin, is_nan, binary32, to_bits}
use Rattle.total.specs.Total.{sum_from, total_from}

-- ---- a weight's bits
pub nan_bits : (x : Float) → is_nan x ≡ true → 0x7fc00000 ≡ to_bits binary32 x
unfolding to_bits is_nan
nan_bits nan e = refl
nan_bits (inf s) h = absurd (true≢false (sym h))
nan_bits (fin s m e) h = absurd (true≢false (sym h))

-- the bits times one of the numbers up to 394,752: far below 2^64
pub product_le : (b n : ℕ) → b < 2 ^ 32 → n ≤ 394752 → b * n ≤ 2 ^ 51
product_le b n h g = le_trans (mul-le-mul {n₂ = 2 ^ 32} (omega arith) g) (lit≤ tt)

-- ---- the sum
pub sum_append : (p : ℕ) (xs ys : List Float) → sum_from p (xs ++ ys) ≡ sum_from p xs + sum_from (p + length xs) ys
unfolding sum_from
sum_append p [] ys = sym (ap (λ (n : ℕ). 0 + sum_from n ys) (add-zero p) ∙ (omega arith))
sum_append p (x ∷ xs) ys =
    let e = sum_append (p + 1) xs ys in
    let f : sum_from (p + 1 + length xs) ys ≡ sum_from (p + suc (length xs)) ys = ap (λ (n : ℕ). sum_from n ys) (omega arith) in
    omega arith

sum_one : (p : ℕ) (x : Float) → sum_from p (x ∷ []) ≡ to_bits binary32 x * (p + 1)
unfolding sum_from
sum_one p x = add-zero (to_bits binary32 x * (p + 1))

-- one weight more
sum_next : (l : List Float) (p i : ℕ) → i < length l → sum_from p (take (i + 1) l) ≡ sum_from p (take i l) + to_bits binary32 (get_or l i nan) * (p + i + 1)
sum_next l p i h =
    ap (λ (n : ℕ). sum_from p (take n l)) (add-one i)
    ∙ ap (sum_from p) (take-suc l i nan h)
    ∙ sum_append p (take i l) (get_or l i nan ∷ [])
    ∙ ap (λ (n : ℕ). sum_from p (take i l) + sum_from (p + n) (get_or l i nan ∷ [])) (length-take-le i l (omega arith))
    ∙ ap (λ (n : ℕ). sum_from p (take i l) + n) (sum_one (p + i) (get_or l i nan))

-- ---- the total
pub total_none : (p : ℕ) → 0 ≡ total_from p []
unfolding total_from sum_from
total_none p = refl

-- one weight more: its bits b times its place plus 1
pub total_next : (l : List Float) (p i t b r : ℕ) → i < length l → t ≡ total_from p (take i l) → b ≡ to_bits binary32 (get_or l i nan)
    → r ≡ (t + b * (p + i + 1)) % 2 ^ 64 → r ≡ total_from p (take (i + 1) l)
unfolding total_from
total_next l p i t b r h e f k =
    k
    ∙ ap (λ (x : ℕ). (x + b * (p + i + 1)) % 2 ^ 64) e
    ∙ mod-add-mod (sum_from p (take i l)) (2 ^ 64) (b * (p + i + 1))
    ∙ ap (λ (x : ℕ). (sum_from p (take i l) + x * (p + i + 1)) % 2 ^ 64) f
    ∙ ap (λ (x : ℕ). x % 2 ^ 64) (sym (sum_next l p i h))

pub total_all : (l : List Float) (p i t : ℕ) → length l ≤ i → t ≡ total_from p (take i l) → t ≡ total_from p l
total_all l p i t h e = e ∙ ap (total_from p) (take_all i l h)

pub total_below : (p : ℕ) (l : List Float) → total_from p l < 2 ^ 64
unfolding total_from
total_below p l = mod-lt (sum_from p l) (lit< tt)

-- a difference that wraps round, as a sum
pub less_is : (m r a b : ℕ) → b < m → r < m → (r + b) % m ≡ a → r ≡ (a + (m - b)) % m
less_is m r a b h g e =
    let x : r + b + (m - b) ≡ r + m = omega arith in
    sym
    (ap (λ (t : ℕ). (t + (m - b)) % m) (sym e)
    ∙ mod-add-mod (r + b) m (m - b)
    ∙ ap (λ (t : ℕ). t % m) x
    ∙ add-mod_right r m
    ∙ mod-eq_of_lt g)
