-- What parts of slices and the functions that fill go by. Assumes nothing.
use Rattle.std.proofs.Common.{◌≡◌, ℕ, zero, suc, ◌+◌, ◌-◌, ◌*◌, ◌%◌, ◌<◌, ◌≤◌, List, [], length, take, drop, set, sym, refl, ap, ◌∙◌, add-mul, one-mul, zero-mul, add-one, arith, le-leb, ℤ, to_z, w32, ◌^◌}
use native.Mathlib.Nat.{sub-zero, zero-mod, mod-add-mod}
use borrow.Author.Tests.{lt-leb}
use Rattle.show.specs.Input.{first_of}
use Rattle.show.specs.Filled.{stored, rows_with, modulo, sample_at}

-- fewer than n
pub first_none : {A : Type 0} (n : ℕ) (l : List A) → length l < n → [] ≡ first_of n l
unfolding first_of
first_none n l h = rw (first_of, lt-leb n (length l) h)

-- the part of a slice that starts at 0
pub first_some : {A : Type 0} (n : ℕ) (l : List A) → n ≤ length l → take (n - 0) l ≡ first_of n l
unfolding first_of
first_some n l h = rw (first_of, le-leb n (length l) h) (ap (λ (k : ℕ). take k l) (sub-zero n))

pub modulo_some : (x m : ℕ) → 0 < m → x % m ≡ modulo x m
unfolding modulo
modulo_some x zero h = absurd (omega arith)
modulo_some x (suc m) h = refl

pub modulo_none : (x m : ℕ) → m ≤ 0 → 0 ≡ modulo x m
unfolding modulo
modulo_none x zero h = refl
modulo_none x (suc m) h = absurd (omega arith)

pub modulo_start : (step m : ℕ) → 0 ≡ modulo (0 * step) m
unfolding modulo
modulo_start step zero = refl
modulo_start step (suc m) = sym (rw (zero-mul step) (zero-mod (suc m)))

-- one step more
modulo_more : (p step m : ℕ) → modulo (modulo (p * step) m + step) m ≡ modulo ((p + 1) * step) m
unfolding modulo
modulo_more p step zero = refl
modulo_more p step (suc m) = mod-add-mod (p * step) (suc m) step ∙ ap (λ (x : ℕ). x % suc m) (sym (add-mul p 1 step ∙ ap (λ (x : ℕ). p * step + x) (one-mul step)))

-- the rest after one step more
pub rest_more : (p step m r n : ℕ) → r ≡ modulo (p * step) m → n ≡ modulo (r + step) m → n ≡ modulo ((p + 1) * step) m
rest_more p step m r n e f = f ∙ ap (λ (x : ℕ). modulo (x + step) m) e ∙ modulo_more p step m

-- one store more
pub stored_more : {A : Type 0} (at : ℕ → ℕ) (what : ℕ → A) (j : ℕ) (l m : List A) (i : ℕ) (a : A) → m ≡ stored at what j l → i ≡ at j → a ≡ what j → set m i a ≡ stored at what (j + 1) l
unfolding stored
stored_more at what j l m i a e f g = rw (add-one, e, f, g)

-- one sample more by the rule
pub sample_more : (base step m p r : ℕ) (x y : ℤ) (k l : List ℤ) → k ≡ stored (λ i. i) (sample_at base step m) p l → r ≡ modulo (p * step) m → x ≡ to_z w32 ((base + r) % 2 ^ 32) → y ≡ x
    → set k p y ≡ stored (λ i. i) (sample_at base step m) (p + 1) l
sample_more base step m p r x y k l e f g h = stored_more (λ (i : ℕ). i) (sample_at base step m) p l k p y e refl (h ∙ g ∙ ap (λ (q : ℕ). to_z w32 ((base + q) % 2 ^ 32)) f)

-- a part by where it begins and its length
pub part_is : (s : List ℕ) {t r : List ℕ} {a b n m : ℕ} → r ≡ first_of n t → t ≡ drop a s → a ≡ b → n ≡ m → r ≡ first_of m (drop b s)
part_is s e f g h = rw (e, f, g, h)

-- rows by their list
pub rows_listed : (rows before list m : List ℕ) → rows ≡ rows_with list before → list ≡ m → rows ≡ rows_with m before
rows_listed rows before list m e f = e ∙ ap (λ (l : List ℕ). rows_with l before) f
