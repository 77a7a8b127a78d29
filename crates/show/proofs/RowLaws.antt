-- The zeros at the end of a row, and its numbers one by one, for the functions that find and write them. Assumes nothing.
use Rattle.std.proofs.Common.{◌≡◌, ℕ, zero, suc, ◌+◌, ◌<◌, List, ◌++◌, length, get_or, take, refl, sym, ap, ◌∙◌, subst, Bool, cond, arith, add-one, eq-eqb, ne_eqb, min, inl, inr, length-take, Option}
use Rattle.std.proofs.lemmas.Bool.{cases_lt}
use Rattle.std.proofs.lemmas.List.{get_or-take}
use Rattle.std.proofs.KnownBytes.{Appends-nil, Appends-trans}
use Rattle.std.specs.Io.KnownBytes.{Appends}
use Rattle.show.specs.Written.{used_of, item_of, items_of}

last_stays : (row : List ℕ) (n : ℕ) → (get_or row (suc n) 0 ≡ 0 → ⊥) → suc (suc n) ≡ used_of row (suc (suc n))
unfolding used_of
last_stays row n e = sym (ap (λ (b : Bool). cond b (used_of row (suc n)) (suc (suc n))) (ne_eqb (get_or row (suc n) 0) 0 e))

last_goes : (row : List ℕ) (n : ℕ) → get_or row (suc n) 0 ≡ 0 → used_of row (suc (suc n)) ≡ used_of row (suc n)
unfolding used_of
last_goes row n e = ap (λ (b : Bool). cond b (used_of row (suc n)) (suc (suc n))) (eq-eqb (get_or row (suc n) 0) 0 e)

-- the last of the first n numbers that is not 0 is at place i
used_to : (row : List ℕ) (i n : ℕ) → i < n → (get_or row i 0 ≡ 0 → ⊥) → ((k : ℕ) → i < k → k < n → get_or row k 0 ≡ 0) → i + 1 ≡ used_of row n
unfolding used_of
used_to row i zero h e z = absurd (omega arith)
used_to row i (suc zero) h e z = omega arith
used_to row i (suc (suc n)) h e z =
    elim (cases_lt i (suc n)) [
      | inl l ↦ used_to row i (suc n) l e (λ k a b. z k a (omega arith)) ∙ sym (last_goes row n (z (suc n) l (omega arith)))
      | inr l ↦ let s : i ≡ suc n = omega arith in let m : i + 1 ≡ suc (suc n) = omega arith in m ∙ last_stays row n (subst (λ (j : ℕ). get_or row j 0 ≡ 0 → ⊥) s e)
    ]

-- the first n numbers are zeros
none_used : (row : List ℕ) (n : ℕ) → ((k : ℕ) → k < n → get_or row k 0 ≡ 0) → min n 1 ≡ used_of row n
unfolding used_of
none_used row zero z = refl
none_used row (suc zero) z = refl
none_used row (suc (suc n)) z =
    let less : min (suc n) 1 ≡ used_of row (suc n) = none_used row (suc n) (λ k h. z k (omega arith)) in
    let same : min (suc (suc n)) 1 ≡ min (suc n) 1 = omega arith in
    same ∙ less ∙ sym (last_goes row n (z (suc n) (omega arith)))

pub used_some : (row : List ℕ) (i : ℕ) → i < length row → (get_or row i 0 ≡ 0 → ⊥) → ((k : ℕ) → i < k → k < length row → get_or row k 0 ≡ 0) → i + 1 ≡ used_of row (length row)
used_some row i h e z = used_to row i (length row) h e z

pub used_none : (row : List ℕ) → ((k : ℕ) → k < length row → get_or row k 0 ≡ 0) → min (length row) 1 ≡ used_of row (length row)
used_none row z = none_used row (length row) z

-- no number yet
pub items_none : (a : Option (List ℕ)) (row : List ℕ) → Appends a a (items_of row 0)
unfolding items_of
items_none a row = Appends-nil a

-- one number more, of the first n
pub items_more : (a b c : Option (List ℕ)) (row : List ℕ) (n i : ℕ) → Appends a b (items_of row i) → Appends b c (item_of i (get_or (take n row) i 0)) → i < length (take n row) → Appends a c (items_of row (i + 1))
unfolding items_of
items_more a b c row n i f g h =
    let below : i < n = omega (arith, length-take n row) in
    let e : get_or (take n row) i 0 ≡ get_or row i 0 = get_or-take n row i 0 below in
    let more : items_of row (i + 1) ≡ items_of row i ++ item_of i (get_or (take n row) i 0) = rw (add-one i, e) in
    subst (λ (bs : List ℕ). Appends a c bs) (sym more) (Appends-trans a b c (items_of row i) (item_of i (get_or (take n row) i 0)) f g)
