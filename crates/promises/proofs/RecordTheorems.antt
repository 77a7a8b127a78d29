-- What document 01 asks of the record, over descriptions: 17 rows of 128 numbers and an arena of samples. Assumes nothing.
use mathlib.Core.Path.{◌≡◌, refl, sym, ap, ◌∙◌}
use mathlib.Core.List.{List, [], ◌∷◌, ◌++◌}
use mathlib.Core.Bool.{Bool, true, false}
use Prim.Native.Nat.{ℕ, zero, suc, ◌+◌, ◌≤◌, ◌<◌}
use native.Mathlib.Omega.{arith}
use native.Mathlib.Decide.{ℕ_discrete}
use borrow.Author.Tests.{ne_eqb, eqb-true, lt-ltb, le-ltb}
use lib.IntN.{ℤ}
use lib.ListN.{length, get_or}
use lib.Dec.{eqb}
use Rattle.params.specs.Allowed.{mode_at}
use Rattle.record.specs.Format.{pick, done, whole}
use Rattle.record.specs.Flat.{Flat, flat_format}
use Rattle.transform.specs.Kinds.{part}
use Rattle.params.specs.Raw.{is_raw}
use Rattle.record.specs.Description.{raw_parts, describe, record_of, Allowed, Same}
use Rattle.record.specs.Replies.{written_reply, write_answer}
use Rattle.record.proofs.Laws.{no_beginning}
use Rattle.promises.proofs.RecordWhole.{flat_lawful, injective, whole_writes}
use Rattle.promises.proofs.RecordDefaults.{mode_zero}
use Rattle.promises.proofs.RecordAllowed.{checked_of, allowed_ok}

-- ---- the same description, and the same parts by kind

parts_same : (rows : List ℕ) (s s' : List ℤ) (k n : ℕ) → raw_parts rows s k n ≡ raw_parts rows s' k n → (i : ℕ) → k ≤ i → i < k + n → is_raw rows i ≡ true → part i s ≡ part i s'
parts_same rows s s' k zero e i h l r = absurd (omega arith)
parts_same rows s s' k (suc n) e i h l r = go (ℕ_discrete i k) (λ m. parts_same rows s s' (k + 1) n (tails e) i m (omega arith) r)
  where
    tail : List (List ℤ) → List (List ℤ)
    tail [] = []
    tail (v ∷ vs) = vs

    head : List (List ℤ) → List ℤ
    head [] = []
    head (v ∷ vs) = v

    tails : raw_parts rows s k (suc n) ≡ raw_parts rows s' k (suc n) → raw_parts rows s (k + 1) n ≡ raw_parts rows s' (k + 1) n
    tails q = ap tail q

    here : is_raw rows k ≡ true → raw_parts rows s k (suc n) ≡ raw_parts rows s' k (suc n) → part k s ≡ part k s'
    here q p = sym (ap (λ (b : Bool). pick b (part k s) []) q) ∙ ap head p ∙ ap (λ (b : Bool). pick b (part k s') []) q

    go : Dec (i ≡ k) → (k + 1 ≤ i → part i s ≡ part i s') → part i s ≡ part i s'
    go (yes q) ih = ap (λ (k : ℕ). part k s) q ∙ here (ap (is_raw rows) (sym q) ∙ r) e ∙ ap (λ (k : ℕ). part k s') (sym q)
    go (no q) ih = ih (omega arith)

same_parts : (rows : List ℕ) (s s' : List ℤ) → ((i : ℕ) → i < 17 → is_raw rows i ≡ true → part i s ≡ part i s') → (k n : ℕ) → k + n ≤ 17 → raw_parts rows s k n ≡ raw_parts rows s' k n
same_parts rows s s' f k zero h = refl
same_parts rows s s' f k (suc n) h = (λ t. here (is_raw rows k) refl t ∷ same_parts rows s s' f (k + 1) n (omega arith) t)
  where
    here : (b : Bool) → is_raw rows k ≡ b → pick b (part k s) [] ≡ pick b (part k s') []
    here true q = f k (omega arith) q
    here false q = refl

described : (r : List ℕ) (s : List ℤ) (r' : List ℕ) (s' : List ℤ) → Allowed r s → describe r s ≡ describe r' s' → Same r s r' s'
described r s r' s' a e = record { numbers = ap (λ (f : Flat). f.0) e; raws = λ k h q. go k h q (ℕ_discrete (get_or r 126 0) 1) }
  where
    n : r ≡ r'
    n = ap (λ (f : Flat). f.0) e

    move : describe r s ≡ describe r s'
    move = e ∙ ap (λ (x : List ℕ). describe x s') (sym n)

    go : (k : ℕ) → k < 17 → is_raw r k ≡ true → Dec (get_or r 126 0 ≡ 1) → part k s ≡ part k s'
    go k h q (yes d) = absurd (omega (arith, mode_zero r s (checked_of r s a) d k h, eqb-true (mode_at r k) 7 q))
    go k h q (no d) =
        let m : raw_parts r s 0 17 ≡ raw_parts r s' 0 17 = rw (ne_eqb (get_or r 126 0) 1 d) at (ap (λ (f : Flat). f.1) move) in
        parts_same r s s' 0 17 m k (omega arith) (omega arith) q

-- ---- demand 3, the record's half

module _ (r : List ℕ) (s : List ℤ) (r' : List ℕ) (s' : List ℤ) (a : Allowed r s) (a' : Allowed r' s') where
  -- two allowed descriptions have the same record only if they are the same description
  pub same_record : record_of r s ≡ record_of r' s' → Same r s r' s'
  unfolding record_of
  same_record e = described r s r' s' a (injective flat_format flat_lawful (describe r s) (describe r' s') (allowed_ok r s a) (allowed_ok r' s' a') e)

  -- and have it if they are
  pub record_same : Same r s r' s' → record_of r s ≡ record_of r' s'
  unfolding record_of
  record_same x =
      ap (λ (t : List (List ℤ)). flat_format.write (r, pick (eqb (get_or r 126 0) 1) [] t)) (same_parts r s s' x.raws 0 17 (omega arith))
      ∙ ap (λ (t : List ℕ). flat_format.write (describe t s')) x.numbers

  -- no record is the beginning of a different one
  pub no_record_begins : (t : List ℕ) → record_of r s ++ t ≡ record_of r' s' → Same r s r' s'
  unfolding record_of
  no_record_begins t e = described r s r' s' a (no_beginning flat_format flat_lawful (describe r s) (describe r' s') t (allowed_ok r s a) (allowed_ok r' s' a') e)

-- ---- reading

-- a record is read as its description
pub record_read : (r : List ℕ) (s : List ℤ) → Allowed r s → whole flat_format (record_of r s) ≡ done (describe r s)
unfolding record_of
record_read r s a = whole_writes flat_format flat_lawful (describe r s) (allowed_ok r s a)

-- ---- writing

-- ROOM says the record's length, where the buffer is shorter
pub room_is : (r : List ℕ) (s : List ℤ) (room : ℕ) → Allowed r s → room < length (record_of r s) → written_reply (write_answer r s room) ≡ 9 ∷ length (record_of r s) ∷ []
unfolding write_answer
room_is r s room a h = rw (a.lent, a.row, lt-ltb room (length (record_of r s)) h)

-- and DONE says it where it is not
pub done_is : (r : List ℕ) (s : List ℤ) (room : ℕ) → Allowed r s → length (record_of r s) ≤ room → written_reply (write_answer r s room) ≡ 0 ∷ length (record_of r s) ∷ []
unfolding write_answer
done_is r s room a h = rw (a.lent, a.row, le-ltb room (length (record_of r s)) h)
