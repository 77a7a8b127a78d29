-- The ROW check of a set by document 01's replies, each exactly when: LENT, DONE, and ROW with the first kind at fault. Assumes nothing.
use mathlib.Core.Path.{◌≡◌, refl, sym, ap, ◌∙◌, subst}
use mathlib.Core.Logic.{◌↔◌, ◌⊎◌, inl, inr}
use mathlib.Core.Bool.{Bool, true, false, cond, ◌&&◌}
use mathlib.Core.List.{List, [], ◌∷◌}
use Prim.Native.Nat.{ℕ, ◌≤◌, ◌<◌}
use native.Mathlib.Nat.{le_of_eq, le_refl, lt_of_lt_of_le}
use native.Mathlib.Omega.{arith}
use borrow.Author.Tests.{ne_eqb, eqb-true, ltb-true, ltb-false}
use lib.Dec.{ltb, eqb}
use lib.ListN.{length, get_or}
use Rattle.transform.specs.First.{before}
use Rattle.transform.proofs.FirstLaws.{before_stop, before_every, passed_before, fails_at}
use Rattle.std.specs.Prelude.{Result, Ok, Err}
use Rattle.params.specs.declared.rows.RowError.{RowError}
use Rattle.params.specs.declared.rows.RowError.TheVariants.{Lent, Row}
use Rattle.params.specs.Allowed.{entry_row, row_allowed, row_at, mode_at, flag_fault, row_fault, check_rows, check_reply}
use Rattle.params.proofs.FaultLaws.{allowed_entry, check_lent, check_row_lem, check_done}
use Rattle.dequant.proofs.Lent.{rows_fine}
use Rattle.record.proofs.SetStores.{row_first}
use Rattle.promises.proofs.ByNumber.{other}
use Rattle.transform.proofs.Numbered.{differs}
use Rattle.promises.proofs.RowRule.{Small, small_row, entry_flag}
use Rattle.promises.proofs.RowTheorem.{Writes, allowed_writes, writes_allowed, fails_unwritten}

-- ---- by the first kind at fault
module _ (rows : List ℕ) where
  -- which of the three, by the two tests
  abbrev check : Bool → Bool → Result (Unit {0}) RowError
  check long fault = cond long (cond fault (Err (Row (row_fault rows))) (Ok tt)) (Err Lent)

  pub done_fault : check_reply (check_rows rows) ≡ 0 ∷ [] → (length rows ≡ 2176) × (17 ≤ row_fault rows)
  unfolding check_rows
  done_fault = go (eqb (length rows) 2176) (ltb (row_fault rows) 17) refl refl
    where
      go : (a b : Bool) → eqb (length rows) 2176 ≡ a → ltb (row_fault rows) 17 ≡ b → check_reply (check a b) ≡ 0 ∷ [] → (length rows ≡ 2176) × (17 ≤ row_fault rows)
      go true true p q e = absurd (other 5 (row_fault rows ∷ []) [] e)
      go true false p q e = (eqb-true (length rows) 2176 p, ltb-false (row_fault rows) 17 q)
      go false b p q e = absurd (other 0 [] [] e)

  -- DONE where the flag is not at fault and each row passes
  pub rows_pass : length rows ≡ 2176 → flag_fault rows ≡ false → ((k : ℕ) → k < 17 → row_allowed k (row_at rows k) ≡ true) → check_reply (check_rows rows) ≡ 0 ∷ []
  unfolding row_fault
  rows_pass l e f =
      ap check_reply (sym (check_done rows l
      (le_of_eq (sym (ap (λ (b : Bool). cond b 0 (before (λ kind. row_allowed kind (row_at rows kind)) 17)) e ∙ before_every (λ kind. row_allowed kind (row_at rows kind)) 17 f)))))

  row_fault_lem : (k : ℕ) → check_reply (check_rows rows) ≡ 6 ∷ k ∷ [] → (row_fault rows ≡ k) × (k < 17)
  unfolding check_rows
  row_fault_lem k = go (eqb (length rows) 2176) (ltb (row_fault rows) 17) refl
    where
      go : (a b : Bool) → ltb (row_fault rows) 17 ≡ b → check_reply (check a b) ≡ 6 ∷ k ∷ [] → (row_fault rows ≡ k) × (k < 17)
      go true true q e = let z : row_fault rows ≡ k = ap (λ (l : List ℕ). get_or l 1 0) e in (z, subst (λ (n : ℕ). n < 17) z (ltb-true (row_fault rows) 17 q))
      go true false q e = absurd (other 5 (k ∷ []) [] (sym e))
      go false b q e = absurd (differs 1 6 [] (k ∷ []) refl e)

  -- LENT exactly where the rows are not 2,176 numbers
  pub checked_lent : (check_reply (check_rows rows) ≡ 1 ∷ []) ↔ (length rows ≡ 2176 → ⊥)
  checked_lent = (λ e l. go e (ltb (row_fault rows) 17) refl l, λ h. ap check_reply (sym (check_lent rows h)))
    where
      go : check_reply (check_rows rows) ≡ 1 ∷ [] → (b : Bool) → ltb (row_fault rows) 17 ≡ b → length rows ≡ 2176 → ⊥
      go e true q l = differs 6 1 (row_fault rows ∷ []) [] refl (ap check_reply (check_row_lem rows l (ltb-true (row_fault rows) 17 q)) ∙ e)
      go e false q l = differs 0 1 [] [] refl (ap check_reply (check_done rows l (ltb-false (row_fault rows) 17 q)) ∙ e)

-- ---- rows that entries write pass
flag_off : (rows : List ℕ) → entry_row 0 (row_at rows 0) ≡ true → flag_fault rows ≡ false
unfolding flag_fault
flag_off rows e =
    let z : get_or rows 126 0 ≡ 0 = sym (row_first rows 0 126 (omega arith)) ∙ entry_flag 0 (row_at rows 0) e in
    ap (λ (b : Bool). b && ltb (before (λ kind. eqb (mode_at rows kind) 0) 17) 17) (ne_eqb (get_or rows 126 0) 1 (λ i. omega arith))

pub entries_pass : (rows : List ℕ) → length rows ≡ 2176 → ((k : ℕ) → k < 17 → entry_row k (row_at rows k) ≡ true) → check_reply (check_rows rows) ≡ 0 ∷ []
entries_pass rows l f = rows_pass rows l (flag_off rows (f 0 (omega arith))) (λ k h. sym (allowed_entry k (row_at rows k) (omega arith) (f k h)))

-- ---- the ROW theorem of a set
-- why kind k is the first at fault: slot 126 of row 0 is 1 while some mode isn't 0, and k is 0; else no reading, wherever it begins, writes its row, and one does for each kind before it
abbrev pub Why : List ℕ → ℕ → Type 0
Why rows k =
    ((flag_fault rows ≡ true) × (k ≡ 0))
    ⊎ ((flag_fault rows ≡ false) × ((start : ℕ) → Writes start k (row_at rows k) → ⊥) × ((j : ℕ) → j < k → (start : ℕ) × Writes start j (row_at rows j)))

-- kind k is the first at fault, as document 01 says it
pub record Fault (rows : List ℕ) (k : ℕ) : Type 0 where
  pub kind : k < 17
  pub why : Why rows k

module _ (rows : List ℕ) (small : Small rows) where
  ok : ℕ → Bool
  ok kind = row_allowed kind (row_at rows kind)

  by_flag : (b : Bool) → flag_fault rows ≡ b → row_fault rows ≡ cond b 0 (before ok 17)
  unfolding row_fault ok
  by_flag b e = ap (λ (b : Bool). cond b 0 (before (λ kind. row_allowed kind (row_at rows kind)) 17)) e

  writes : (k : ℕ) → ok k ≡ true → (start : ℕ) × Writes start k (row_at rows k)
  unfolding ok
  writes k e = (k, allowed_writes k k (le_refl k) (row_at rows k) (small_row rows k small) e)

  passes : (k : ℕ) → k < 17 → (start : ℕ) × Writes start k (row_at rows k) → ok k ≡ true
  unfolding ok
  passes k h (start, w) = writes_allowed start k h (row_at rows k) w

  each : 17 ≤ row_fault rows → (k : ℕ) → k < 17 → ok k ≡ true
  unfolding ok
  each h k i = rows_fine rows h k i

  unwritten : (k : ℕ) → k < 17 → (ok k ≡ false) ↔ ((start : ℕ) → Writes start k (row_at rows k) → ⊥)
  unfolding ok
  unwritten k h = fails_unwritten k h (row_at rows k) (small_row rows k small)

  -- DONE exactly where the rows are 2,176 numbers, each row is one that some reading writes, and slot 126 is not at fault
  pub checked_done : (check_reply (check_rows rows) ≡ 0 ∷ []) ↔ ((length rows ≡ 2176) × (flag_fault rows ≡ false) × ((k : ℕ) → k < 17 → (start : ℕ) × Writes start k (row_at rows k)))
  checked_done = (λ e. let (l, h) = done_fault rows e in (l, no_flag (flag_fault rows) refl h, λ k i. writes k (each h k i)), back)
    where
      no_flag : (b : Bool) → flag_fault rows ≡ b → 17 ≤ row_fault rows → flag_fault rows ≡ false
      no_flag true e h = let z = by_flag true e in absurd (omega arith)
      no_flag false e h = e

      back : (length rows ≡ 2176) × (flag_fault rows ≡ false) × ((k : ℕ) → k < 17 → (start : ℕ) × Writes start k (row_at rows k)) → check_reply (check_rows rows) ≡ 0 ∷ []
      back (l, f, w) = rows_pass rows l f (λ k h. unfold ok in passes k h (w k h))

  -- ROW with a kind exactly where the rows are 2,176 numbers and that is the first kind at fault
  pub checked_row : (k : ℕ) → length rows ≡ 2176 → (check_reply (check_rows rows) ≡ 6 ∷ k ∷ []) ↔ Fault rows k
  checked_row k l = (λ e. let (z, h) = row_fault_lem rows k e in record { kind = h; why = why (flag_fault rows) refl z h }, λ f. says (at f.why f.kind) f.kind)
    where
      why : (b : Bool) → flag_fault rows ≡ b → row_fault rows ≡ k → k < 17 → Why rows k
      why true e z h = inl (e, sym z ∙ by_flag true e)
      why false e z h =
          let first : before ok 17 ≡ k = sym (by_flag false e) ∙ z in
          let not : ok k ≡ false = sym (ap ok first) ∙ fails_at ok 17 (subst (λ (n : ℕ). n < 17) (sym first) h) in
          inr (e, (unwritten k h).0 not, λ j i. writes j (passed_before ok 17 j (subst (λ (n : ℕ). j < n) (sym first) i)))

      at : Why rows k → k < 17 → row_fault rows ≡ k
      at (inl (e, z)) h = by_flag true e ∙ sym z
      at (inr (e, n, f)) h =
          by_flag false e
          ∙ before_stop ok k 17 (before_every ok k (λ j i. passes j (lt_of_lt_of_le i (native.Mathlib.Nat.le_of_lt h)) (f j i))) ((unwritten k h).1 n) h

      says : row_fault rows ≡ k → k < 17 → check_reply (check_rows rows) ≡ 6 ∷ k ∷ []
      says z h = ap check_reply (sym (check_row_lem rows l (subst (λ (n : ℕ). n < 17) (sym z) h))) ∙ ap (λ (n : ℕ). 6 ∷ n ∷ []) z
