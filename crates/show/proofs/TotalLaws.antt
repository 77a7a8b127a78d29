-- The total, from the last place on: each item's number is in the running sum once for each place up to its own. Assumes nothing.
use Rattle.std.proofs.Common.{◌≡◌, ℕ, ◌+◌, ◌*◌, ◌%◌, ◌^◌, List, [], ◌∷◌, ◌++◌, length, map, append-nil, append_assoc, refl, ap, ◌∙◌, sym, arith}
use Rattle.std.specs.List.{push}
use native.Mathlib.Nat.{add-mod}
use Rattle.show.specs.Totals.{weighed_from, total_of}

module _ {A : Type 0} (n : A → ℕ) where
  -- the sum of the numbers
  abbrev numbers_in : List A → ℕ
  numbers_in [] = 0
  numbers_in (x ∷ l) = n x + numbers_in l

  -- a place further on, each number counts once more
  further : (p : ℕ) (l : List A) → weighed_from n (p + 1) l ≡ weighed_from n p l + numbers_in l
  unfolding weighed_from
  further p [] = refl
  further p (x ∷ l) = omega (arith, further (p + 1) l)

  -- what the two sums are of some items
  pub record Summed (l : List A) (running sum : ℕ) : Type 0 where
    pub numbers : running ≡ numbers_in l % 2 ^ 64
    pub total : sum ≡ total_of n l

  -- none yet
  summed_none : Summed [] 0 0
  unfolding weighed_from total_of
  summed_none = record { numbers = refl; total = refl }

  -- one item more, before the others
  summed_more : (x : A) (l : List A) (r s r' : ℕ) → Summed l r s → r' ≡ (r + n x) % 2 ^ 64 → Summed (x ∷ l) r' ((s + r') % 2 ^ 64)
  unfolding weighed_from total_of
  summed_more x l r s r' k e = record { numbers = b; total = rw (b, k.total) (sym (add-mod (weighed_from n 0 l) (numbers_in (x ∷ l)) (2 ^ 64)) ∙ ap (λ (m : ℕ). m % 2 ^ 64) (omega (arith, further 0 l))) }
    where
      b : r' ≡ numbers_in (x ∷ l) % 2 ^ 64
      b = omega (arith, e, k.numbers)

-- the items are those that are left and, behind them, those whose sums there are
pub record Behind {A : Type 0} (n : A → ℕ) (items rest : List A) (running sum : ℕ) : Type 0 where
  pub done : List A
  pub split : items ≡ rest ++ done
  pub summed : Summed n done running sum

pub behind_none : {A : Type 0} {n : A → ℕ} (items rest : List A) → rest ≡ items → Behind n items rest 0 0
behind_none {n = n} items rest e = record { done = []; split = sym (append-nil rest ∙ e); summed = summed_none n }

pub behind_more : {A : Type 0} {n : A → ℕ} (items rest left : List A) (x : A) (r s b : ℕ) → Behind n items rest r s → rest ≡ push left x → b ≡ n x
    → Behind n items left ((r + b) % 2 ^ 64) ((s + (r + b) % 2 ^ 64) % 2 ^ 64)
behind_more {n = n} items rest left x r s b k e f = record {
  done = x ∷ k.done;
  split = k.split ∙ ap (λ l. l ++ k.done) e ∙ append_assoc left (x ∷ []) k.done;
  summed = summed_more n x k.done r s _ k.summed (ap (λ (m : ℕ). (r + m) % 2 ^ 64) f);
}

pub behind_all : {A : Type 0} {n : A → ℕ} (items rest : List A) (r s : ℕ) → Behind n items rest r s → length rest ≡ 0 → s ≡ total_of n items
behind_all {n = n} items [] r s k h = k.summed.total ∙ ap (λ l. total_of n l) (sym k.split)
behind_all items (x ∷ rest) r s k h = absurd (omega arith)

-- numbers that are written down in a buffer count there as the items that they are of: with this `total_by` over such a buffer gives a
-- caller with a closure its total
numbers_weighed : {A : Type 0} (n : A → ℕ) (p : ℕ) (l : List A) → weighed_from (λ (m : ℕ). m) p (map n l) ≡ weighed_from n p l
unfolding weighed_from
numbers_weighed n p [] = refl
numbers_weighed n p (x ∷ l) = ap (λ (s : ℕ). n x * (p + 1) + s) (numbers_weighed n (p + 1) l)

pub total_numbers : {A : Type 0} (n : A → ℕ) (l : List A) → total_of (λ (m : ℕ). m) (map n l) ≡ total_of n l
unfolding total_of
total_numbers n l = ap (λ (s : ℕ). s % 2 ^ 64) (numbers_weighed n 0 l)
