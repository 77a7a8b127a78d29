-- What reading answers, as document 01 says it: TEXT exactly where the bytes are no record, with the longest beginning that they share with any; else ROOM or DONE. Assumes nothing.
use mathlib.Core.Path.{◌≡◌, refl, sym, ap, ◌∙◌}
use mathlib.Core.List.{List, [], ◌∷◌}
use mathlib.Core.Logic.{◌↔◌}
use mathlib.Core.Bool.{Bool, true, false, ◌&&◌}
use Prim.Native.Nat.{ℕ, ◌≤◌}
use native.Mathlib.Omega.{arith}
use lib.IntN.{ℤ}
use lib.ListN.{get_or}
use lib.Dec.{eqb}
use Rattle.params.specs.Raw.{any_raw}
use Rattle.record.specs.Format.{pick, shared, Longest, Reading, done, text, whole}
use Rattle.record.specs.Flat.{Flat, flat_format}
use Rattle.record.specs.Description.{describe, record_of, Allowed}
use Rattle.std.specs.Prelude.{Ok, Err}
use Rattle.record.specs.declared.reader.ReadError.TheVariants as reads
use Rattle.record.specs.Replies.{Taken, taken_reply, read_lent, read_is, read_answer}
use Rattle.promises.proofs.RecordWhole.{flat_lawful, whole_done, whole_text}
use Rattle.promises.proofs.RecordAllowed.{allowed_ok}
use Rattle.promises.proofs.RecordTheorems.{record_read}
use Rattle.promises.proofs.RecordBehind.{Behind, behind}

-- bytes that are a record: that of a description which document 01 allows
pub record IsRecord (t : List ℕ) : Type 0 where
  pub rows : List ℕ
  pub samples : List ℤ
  pub allowed : Allowed rows samples
  pub written : record_of rows samples ≡ t

-- bytes that are read as a description are the record of it
pub done_record : (t : List ℕ) (f : Flat) → whole flat_format t ≡ done f → (x : IsRecord t) × (describe x.rows x.samples ≡ f)
unfolding record_of
done_record t f e =
    let x = whole_done flat_format flat_lawful t f e in
    let b : Behind f = behind f x.0 in
    (record { rows = b.rows; samples = b.samples; allowed = b.allowed; written = ap flat_format.write b.same ∙ sym x.1 }, b.same)

-- ---- by document 01's numbers

first_apart : (a b : ℕ) (v w : List ℕ) → (a ≡ b → ⊥) → a ∷ v ≡ b ∷ w → ⊥
first_apart a b v w h e = h (ap (λ (l : List ℕ). get_or l 0 0) e)

-- ROOM or DONE
abbrev kept : Bool → Taken
kept b = pick b (Err (reads.Room 394752)) (Ok tt)

room_kept : (b : Bool) → taken_reply (kept b) ≡ 9 ∷ 394752 ∷ [] → b ≡ true
room_kept true e = refl
room_kept false e = absurd (first_apart 0 9 [] (394752 ∷ []) (λ q. omega arith) e)

done_kept : (b : Bool) → taken_reply (kept b) ≡ 0 ∷ [] → b ≡ false
done_kept true e = absurd (first_apart 9 0 (394752 ∷ []) [] (λ q. omega arith) e)
done_kept false e = refl

text_kept : (b : Bool) (k : ℕ) → taken_reply (kept b) ≡ 10 ∷ k ∷ [] → ⊥
text_kept true k e = first_apart 9 10 (394752 ∷ []) (k ∷ []) (λ q. omega arith) e
text_kept false k e = first_apart 0 10 [] (k ∷ []) (λ q. omega arith) e

-- TEXT is given with the number that the definition names
pub text_answer : (n l : ℕ) (t : List ℕ) (k : ℕ) → taken_reply (read_answer n l t) ≡ 10 ∷ k ∷ [] → whole flat_format t ≡ text k
unfolding read_answer
text_answer n l t k e = go (read_lent n l) (whole flat_format t) refl e
  where
    go : (b : Bool) (x : Reading Flat) → whole flat_format t ≡ x → taken_reply (pick b (Err reads.Lent) (read_is l x)) ≡ 10 ∷ k ∷ [] → whole flat_format t ≡ text k
    go true x h q = absurd (first_apart 1 10 [] (k ∷ []) (λ z. omega arith) q)
    go false (done f) h q = absurd (text_kept (any_raw f.0 && eqb l 0) k q)
    go false (text m) h q = h ∙ ap text (ap (λ (v : List ℕ). get_or v 1 0) q)

-- its number is the longest beginning that the bytes share with any record
module _ (n l : ℕ) (t : List ℕ) (k : ℕ) (e : taken_reply (read_answer n l t) ≡ 10 ∷ k ∷ []) where
  longest : Longest flat_format t k
  longest = (whole_text flat_format flat_lawful t k (text_answer n l t k e)).0

  -- none shares more
  pub text_most : (r : List ℕ) (s : List ℤ) → Allowed r s → shared t (record_of r s) ≤ k
  unfolding record_of
  text_most r s a = longest.most (describe r s) (allowed_ok r s a)

  -- and one shares as much
  pub text_reached : (r : List ℕ) × (s : List ℤ) × Allowed r s × (shared t (record_of r s) ≡ k)
  unfolding record_of
  text_reached =
      let x = longest.reached in
      let b : Behind x.0 = behind x.0 x.1 in
      (b.rows, b.samples, b.allowed, ap (λ (f : Flat). shared t (flat_format.write f)) b.same ∙ x.2)

-- rows and samples of the lengths named
module _ (n l : ℕ) (t : List ℕ) (named : read_lent n l ≡ false) where
  answer : read_answer n l t ≡ read_is l (whole flat_format t)
  unfolding read_answer
  answer = ap (λ (b : Bool). pick b (Err reads.Lent) (read_is l (whole flat_format t))) named

  of_record : (x : IsRecord t) → read_answer n l t ≡ kept (any_raw x.rows && eqb l 0)
  of_record x = answer ∙ ap (read_is l) (ap (whole flat_format) (sym x.written) ∙ record_read x.rows x.samples x.allowed)

  either : {P : Type 0} → ((k : ℕ) → read_answer n l t ≡ Err (reads.Text k) → P) → (IsRecord t → P) → P
  either {P = P} f g = go (whole flat_format t) refl
    where
      go : (x : Reading Flat) → whole flat_format t ≡ x → P
      go (done d) e = g (done_record t d e).0
      go (text k) e = f k (answer ∙ ap (read_is l) e)

  -- TEXT is given exactly where the bytes are no record
  pub text_exactly : ((k : ℕ) × (taken_reply (read_answer n l t) ≡ 10 ∷ k ∷ [])) ↔ (IsRecord t → ⊥)
  text_exactly = (λ p x. text_kept (any_raw x.rows && eqb l 0) p.0 (sym (ap taken_reply (of_record x)) ∙ p.1), λ h. either (λ k e. (k, ap taken_reply e)) (λ x. absurd (h x)))

  -- ROOM is given exactly where they are a record that has raw, and no samples are lent
  pub room_exactly : (taken_reply (read_answer n l t) ≡ 9 ∷ 394752 ∷ []) ↔ ((x : IsRecord t) × ((any_raw x.rows && eqb l 0) ≡ true))
  room_exactly = (
    λ e. either (λ k q. absurd (first_apart 10 9 (k ∷ []) (394752 ∷ []) (λ z. omega arith) (sym (ap taken_reply q) ∙ e))) (λ x. (x, room_kept (any_raw x.rows && eqb l 0) (sym (ap taken_reply (of_record x)) ∙ e))),
    λ p. ap taken_reply (of_record p.0) ∙ ap (λ (b : Bool). taken_reply (kept b)) p.1,
  )

  -- and DONE exactly where they are a record, and samples are lent or it has no raw
  pub done_exactly : (taken_reply (read_answer n l t) ≡ 0 ∷ []) ↔ ((x : IsRecord t) × ((any_raw x.rows && eqb l 0) ≡ false))
  done_exactly = (
    λ e. either (λ k q. absurd (first_apart 10 0 (k ∷ []) [] (λ z. omega arith) (sym (ap taken_reply q) ∙ e))) (λ x. (x, done_kept (any_raw x.rows && eqb l 0) (sym (ap taken_reply (of_record x)) ∙ e))),
    λ p. ap taken_reply (of_record p.0) ∙ ap (λ (b : Bool). taken_reply (kept b)) p.1,
  )
