-- The laws of a number with a sign. Assumes nothing.
use mathlib.Core.Path.{◌≡◌, refl, sym, ap, ◌∙◌, subst}
use mathlib.Core.List.{List, [], ◌∷◌}
use mathlib.Core.Bool.{true, false}
use mathlib.Core.Logic.{◌⊎◌, inl, inr}
use Prim.Native.Nat.{ℕ, zero, suc, ◌≤◌, ◌<◌}
use native.Mathlib.Nat.{not-suc-le-zero}
use native.Mathlib.Omega.{arith}
use borrow.Author.Tests.{ne_eqb}
use lib.IntN.{ℤ, pos, negsuc, neg_ℤ, nat_abs, pos-ne-negsuc}
use lib.ListN.{length, get_or}
use lib.Dec.{eqb}
use Rattle.record.specs.Format.{got, Format, Lawful, lit, via, choose}
use Rattle.record.specs.Text.{bytes}
use Rattle.record.specs.Number.{Step, ended, stuck, on, next, number_from, number, is_zero, is_minus, nought, minus, plus, signed}
use Rattle.record.proofs.Laws.{got_bad, Side, lit_lawful, via_lawful, after_lawful, choose_lawful, of_value}
use Rattle.record.proofs.Numbers.{number_lawful, next_on, next_ended}

-- a text that a number is read from begins with a digit from 1
first_digit : (limit end a k : ℕ) (s : List ℕ) → number_from limit end 0 0 s ≡ got a k → (1 ≤ length s) × (49 ≤ get_or s 0 0)
first_digit limit end a k [] e = absurd (got_bad (sym e))
first_digit limit end a k (b ∷ s) e = (omega arith, go (next limit end 0 b) refl)
  where
    go : (x : Step) → next limit end 0 b ≡ x → 49 ≤ b
    go ended h = absurd (not-suc-le-zero (next_ended limit end 0 b h).0)
    go (on j) h = omega (arith, next_on limit end 0 b j h)
    go stuck h = absurd (got_bad {m = 0} (sym e ∙ rw (number_from, h)))

number_first : (limit end : ℕ) → end < 48 → 1 ≤ limit → (a : ℕ) → (number limit end).Ok a → (1 ≤ length ((number limit end).write a)) × (49 ≤ get_or ((number limit end).write a) 0 0)
number_first limit end o h a k =
    first_digit limit end a (length ((number limit end).write a)) ((number limit end).write a)
    (subst (λ (w : List ℕ). number_from limit end 0 0 w ≡ got a (length ((number limit end).write a))) (mathlib.Core.List.append-nil ((number limit end).write a)) ((number_lawful limit end o h).there a [] k))

module _ (end : ℕ) (o : end < 48) where
  nought_side : Side (λ b. eqb b 48) is_zero true (nought end)
  nought_side = record {
    law = via_lawful (λ u. pos 0) (λ z. tt) (lit (48 ∷ end ∷ [])) (λ a k. refl) (lit_lawful (48 ∷ end ∷ []));
    there = λ a k. ap is_zero (sym k.1);
    long = λ a k. omega arith;
    head = λ a k. refl;
  }

  minus_law : Lawful (minus end)
  minus_law = after_lawful (bytes "-") (via (λ m. neg_ℤ (pos m)) nat_abs (number 2147483648 end)) (via_lawful (λ m. neg_ℤ (pos m)) nat_abs (number 2147483648 end) (λ a k. same a) (number_lawful 2147483648 end o (omega arith)))
    where
      same : (a : ℕ) → nat_abs (neg_ℤ (pos a)) ≡ a
      same zero = refl
      same (suc a) = refl

  -- the value of a writing of minus is below 0
  minus_value : (a : ℤ) → (minus end).Ok a → (n : ℕ) × (a ≡ negsuc n)
  minus_value (pos zero) k = absurd (not-suc-le-zero k.0.1.0.0)
  minus_value (pos (suc n)) k = absurd (pos-ne-negsuc (suc n) n (sym k.0.1.1))
  minus_value (negsuc n) k = (n, refl)

  minus_side : Side (λ b. eqb b 45) is_minus true (minus end)
  minus_side = record {
    law = minus_law;
    there = λ a k. ap is_minus (minus_value a k).1;
    long = λ a k. omega arith;
    head = λ a k. refl;
  }

  plus_value : (a : ℤ) → (plus end).Ok a → (n : ℕ) × (a ≡ pos n) × (1 ≤ n)
  plus_value (pos n) k = (n, refl, k.0.0)
  plus_value (negsuc n) k = absurd (pos-ne-negsuc (suc n) n k.1)

  plus_first : (a : ℤ) → (plus end).Ok a → (1 ≤ length ((plus end).write a)) × (49 ≤ get_or ((plus end).write a) 0 0)
  plus_first a k = number_first 2147483647 end o (omega arith) (nat_abs a) k.0

  plus_side : Side (λ b. eqb b 45) is_minus false (plus end)
  plus_side = record {
    law = via_lawful pos nat_abs (number 2147483647 end) (λ a k. refl) (number_lawful 2147483647 end o (omega arith));
    there = λ a k. ap is_minus (plus_value a k).1;
    long = λ a k. (plus_first a k).0;
    head = λ a k. ne_eqb (get_or ((plus end).write a) 0 0) 45 (λ e. omega (arith, plus_first a k));
  }

  abbrev Nonzero : Format ℤ
  Nonzero = choose (λ b. eqb b 45) is_minus (minus end) (plus end)

  nonzero_value : (a : ℤ) → Nonzero.Ok a → ((is_minus a ≡ true) × (minus end).Ok a) ⊎ ((is_minus a ≡ false) × (plus end).Ok a)
  nonzero_value a k = of_value (λ b. eqb b 45) is_minus (minus end) (plus end) minus_side plus_side a k

  nonzero_side : Side (λ b. eqb b 48) is_zero false Nonzero
  nonzero_side = record {
    law = choose_lawful (λ b. eqb b 45) is_minus (minus end) (plus end) minus_side plus_side;
    there = λ a k. th a (nonzero_value a k);
    long = λ a k. lo a (nonzero_value a k);
    head = λ a k. he a (nonzero_value a k);
  }
    where
      th : (a : ℤ) → ((is_minus a ≡ true) × (minus end).Ok a) ⊎ ((is_minus a ≡ false) × (plus end).Ok a) → is_zero a ≡ false
      th a (inl h) = ap is_zero (minus_value a h.1).1
      th a (inr h) = let x : (n : ℕ) × (a ≡ pos n) × (1 ≤ n) = plus_value a h.1 in ap is_zero x.1 ∙ ne_eqb x.0 0 (λ e. omega (arith, x.2))

      lo : (a : ℤ) → ((is_minus a ≡ true) × (minus end).Ok a) ⊎ ((is_minus a ≡ false) × (plus end).Ok a) → 1 ≤ length (Nonzero.write a)
      lo a (inl h) = rw h.0 (omega arith)
      lo a (inr h) = rw h.0 (plus_first a h.1).0

      he : (a : ℤ) → ((is_minus a ≡ true) × (minus end).Ok a) ⊎ ((is_minus a ≡ false) × (plus end).Ok a) → eqb (get_or (Nonzero.write a) 0 0) 48 ≡ false
      he a (inl h) = rw h.0
      he a (inr h) = rw h.0 (ne_eqb (get_or ((plus end).write a) 0 0) 48 (λ e. omega (arith, plus_first a h.1)))

  pub signed_lawful : Lawful (signed end)
  signed_lawful = choose_lawful (λ b. eqb b 48) is_zero (nought end) Nonzero nought_side nonzero_side
