-- Reading back what was written: DONE, the same rows, and in the arena each raw kind's samples; every other part stays. Assumes nothing.
use mathlib.Core.Path.{◌≡◌, refl, sym, ap, ◌∙◌, subst⁻¹}
use mathlib.Core.List.{List, [], ◌∷◌}
use mathlib.Core.Bool.{Bool, true, false, not, ◌&&◌, ◌||◌, true≢false}
use Prim.Native.Nat.{ℕ, zero, suc, ◌+◌, ◌≤◌, ◌<◌}
use native.Mathlib.Omega.{arith}
use native.Mathlib.Decide.{ℕ_discrete}
use mathlib.Core.Logic.{⊎_elim}
use borrow.Author.Tests.{eq-eqb, ne_eqb, eqb-true}
use lib.IntN.{ℤ}
use lib.ListN.{length, get_or, take, drop, length-drop, drop_of_length-le}
use lib.Seq.{sets, length-sets, length-take-le, take-nil}
use lib.Dec.{eqb}
use Rattle.transform.specs.Kinds.{places_of, start_of, part}
use Rattle.transform.proofs.Laws.{end_le}
use Rattle.record.specs.Format.{pick}
use Rattle.params.specs.Raw.{is_raw, any_raw, samples_lent}
use Rattle.params.proofs.RawLaws.{lent_some}
use Rattle.record.specs.Description.{raw_parts, record_of, Allowed, store_parts}
use Rattle.std.specs.Prelude.{Ok, Err}
use Rattle.record.specs.declared.reader.ReadError.TheVariants as reads
use Rattle.record.specs.Replies.{taken_reply, read_is, read_answer, rows_left, samples_left, rows_after, samples_after}
use Rattle.record.proofs.SetStores.{lent_raw}
use Rattle.params.specs.Allowed.{mode_at}
use Rattle.promises.proofs.RecordDefaults.{mode_zero}
use Rattle.promises.proofs.RecordAllowed.{checked_of}
use Rattle.promises.proofs.RecordTheorems.{record_read}
use Rattle.promises.proofs.RecordParts.{other_part, own_part, store_long}

-- ---- the parts of all kinds, stored

module _ (rows : List ℕ) (s : List ℤ) (full : (k : ℕ) → k < 17 → is_raw rows k ≡ true → length (part k s) ≡ places_of k) where
  size : (k : ℕ) → k < 17 → (b : Bool) → is_raw rows k ≡ b → length (pick b (part k s) []) ≤ places_of k
  size k h true e = omega (arith, full k h e)
  size k h false e = omega arith

  -- kinds before the first stay
  before_stays : (arena : List ℤ) → length arena ≡ 394752 → (j n k : ℕ) → j + n ≤ 17 → k < j → part k (store_parts j (raw_parts rows s j n) arena) ≡ part k arena
  before_stays arena long j zero k h l = refl
  before_stays arena long j (suc n) k h l =
      let v : List ℤ = pick (is_raw rows j) (part j s) [] in
      before_stays (sets arena (start_of j) v) (length-sets arena (start_of j) v ∙ long) (j + 1) n k (omega arith) (omega arith)
      ∙ other_part arena long j v (size j (omega arith) (is_raw rows j) refl) k (λ e. omega arith)

  pub stored_part : (arena : List ℤ) → length arena ≡ 394752 → (j n k : ℕ) → j + n ≤ 17 → j ≤ k → k < j + n → part k (store_parts j (raw_parts rows s j n) arena) ≡ pick (is_raw rows k) (part k s) (part k arena)
  stored_part arena long j zero k h l m = absurd (omega arith)
  stored_part arena long j (suc n) k h l m = go (ℕ_discrete k j) (λ i. stored_part (sets arena (start_of j) v) keeps (j + 1) n k (omega arith) i (omega arith))
    where
      v : List ℤ
      v = pick (is_raw rows j) (part j s) []

      keeps : length (sets arena (start_of j) (pick (is_raw rows j) (part j s) [])) ≡ 394752
      keeps = length-sets arena (start_of j) (pick (is_raw rows j) (part j s) []) ∙ long

      here : (b : Bool) → is_raw rows j ≡ b → part j (sets arena (start_of j) (pick b (part j s) [])) ≡ pick b (part j s) (part j arena)
      here true e = own_part arena long j (part j s) (full j (omega arith) e)
      here false e = refl

      go : Dec (k ≡ j) → (j + 1 ≤ k → part k (store_parts (j + 1) (raw_parts rows s (j + 1) n) (sets arena (start_of j) (pick (is_raw rows j) (part j s) []))) ≡ pick (is_raw rows k) (part k s) (part k (sets arena (start_of j) (pick (is_raw rows j) (part j s) []))))
          → part k (store_parts j (raw_parts rows s j (suc n)) arena) ≡ pick (is_raw rows k) (part k s) (part k arena)
      go (yes e) ih =
          subst⁻¹ (λ (i : ℕ). part i (store_parts j (raw_parts rows s j (suc n)) arena) ≡ pick (is_raw rows i) (part i s) (part i arena)) e
          (before_stays (sets arena (start_of j) (pick (is_raw rows j) (part j s) [])) keeps (j + 1) n j (omega arith) (omega arith) ∙ here (is_raw rows j) refl)
      go (no e) ih =
          ih (omega arith) ∙ ap (λ (t : List ℤ). pick (is_raw rows k) (part k s) t) (other_part arena long j (pick (is_raw rows j) (part j s) []) (size j (omega arith) (is_raw rows j) refl) k e)

-- ---- reading what was written

-- samples as many as the rows need are room enough
enough : (r : List ℕ) (n : ℕ) → samples_lent r n ≡ true → (any_raw r && eqb n 0) ≡ false
unfolding samples_lent
enough r n e = go (any_raw r) (eqb n 0) (eqb n 394752) refl refl e
  where
    go : (c b a : Bool) → eqb n 0 ≡ b → eqb n 394752 ≡ a → (a || (b && not c)) ≡ true → (c && b) ≡ false
    go false b a p q x = refl
    go true false a p q x = refl
    go true true true p q x = let u = eqb-true n 394752 q in let v = eqb-true n 0 p in absurd (omega arith)
    go true true false p q x = absurd (true≢false (sym x))

-- they are of a length that reading names
named : (r : List ℕ) (n : ℕ) → samples_lent r n ≡ true → (eqb n 394752 || eqb n 0) ≡ true
unfolding samples_lent
named r n e = go (eqb n 394752) (eqb n 0) e
  where
    go : (a b : Bool) → (a || (b && not (any_raw r))) ≡ true → (a || b) ≡ true
    go true b x = refl
    go false true x = refl
    go false false x = x

no_part : (k : ℕ) (l : List ℤ) → length l ≡ 0 → part k l ≡ []
no_part k l e = let h : length l ≤ start_of k = omega (arith, e) in ap (take (places_of k)) (drop_of_length-le l h) ∙ take-nil (places_of k)

-- an allowed description; rows of the length named, and samples as many as it needs: 394,752, or none if no row is raw
module _ (r : List ℕ) (s : List ℤ) (a : Allowed r s) (rows : List ℕ) (arena : List ℤ) (n : length rows ≡ 2176) (l : samples_lent r (length arena) ≡ true) where
  answer : read_answer (length rows) (length arena) (record_of r s) ≡ Ok tt
  unfolding read_answer
  answer =
      rw (eq-eqb (length rows) 2176 n, named r (length arena) l)
      (ap (read_is (length arena)) (record_read r s a) ∙ ap (λ (b : Bool). pick b (Err (reads.Room 394752)) (Ok tt)) (enough r (length arena) l))

  pub back_answer : taken_reply (read_answer (length rows) (length arena) (record_of r s)) ≡ 0 ∷ []
  back_answer = ap taken_reply answer

  -- the rows are those that were written
  pub back_rows : rows_after rows (length arena) (record_of r s) ≡ r
  unfolding rows_after
  back_rows = (λ i. rows_left (answer i) (record_read r s a i) rows)

  left : samples_after (length rows) arena (record_of r s) ≡ store_parts 0 (pick (eqb (get_or r 126 0) 1) [] (raw_parts r s 0 17)) arena
  unfolding samples_after
  left = (λ i. samples_left (answer i) (record_read r s a i) arena)

  -- the arena keeps its length: where none was lent, none is there
  pub back_length : length (samples_after (length rows) arena (record_of r s)) ≡ length arena
  back_length = ap length left ∙ store_long 0 (pick (eqb (get_or r 126 0) 1) [] (raw_parts r s 0 17)) arena

  full : (k : ℕ) → k < 17 → is_raw r k ≡ true → length (part k s) ≡ places_of k
  full k h e = length-take-le (places_of k) (drop (start_of k) s) (omega (arith, length-drop (start_of k) s, lent_raw r s k a.lent h e, end_le k))

  all_lent : length arena ≡ 394752 → (k : ℕ) → k < 17 → part k (samples_after (length rows) arena (record_of r s)) ≡ pick (is_raw r k) (part k s) (part k arena)
  all_lent long k h = ap (λ (t : List ℤ). part k t) left ∙ go (ℕ_discrete (get_or r 126 0) 1)
    where
      go : Dec (get_or r 126 0 ≡ 1) → part k (store_parts 0 (pick (eqb (get_or r 126 0) 1) [] (raw_parts r s 0 17)) arena) ≡ pick (is_raw r k) (part k s) (part k arena)
      go (yes e) =
          let z : mode_at r k ≡ 0 = mode_zero r s (checked_of r s a) e k h in
          ap (λ (b : Bool). part k (store_parts 0 (pick b [] (raw_parts r s 0 17)) arena)) (eq-eqb (get_or r 126 0) 1 e)
          ∙ sym (ap (λ (b : Bool). pick b (part k s) (part k arena)) (ne_eqb (mode_at r k) 7 (λ q. omega arith)))
      go (no e) =
          ap (λ (b : Bool). part k (store_parts 0 (pick b [] (raw_parts r s 0 17)) arena)) (ne_eqb (get_or r 126 0) 1 e)
          ∙ stored_part r s full arena long 0 17 k (omega arith) (omega arith) (omega arith)

  none_lent : length arena ≡ 0 → (k : ℕ) → (mode_at r k ≡ 7 → ⊥) → part k (samples_after (length rows) arena (record_of r s)) ≡ pick (is_raw r k) (part k s) (part k arena)
  none_lent e k h =
      no_part k (samples_after (length rows) arena (record_of r s)) (back_length ∙ e)
      ∙ sym (ap (λ (b : Bool). pick b (part k s) (part k arena)) (ne_eqb (mode_at r k) 7 h) ∙ no_part k arena e)

  -- the samples of the raw kinds are those that were written; the others stay
  pub back_samples : (k : ℕ) → k < 17 → part k (samples_after (length rows) arena (record_of r s)) ≡ pick (is_raw r k) (part k s) (part k arena)
  back_samples k h = let w = lent_some r (length arena) l in ⊎_elim (λ e. all_lent e k h) (λ e. none_lent e k (w.1 e k h)) w.0
