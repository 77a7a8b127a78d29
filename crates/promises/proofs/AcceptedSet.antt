-- An accepted set: each of its kinds is accepted by itself, and what `expand` leaves in a kind's part is what `expand_kind` leaves for its row and samples. Assumes nothing.
use mathlib.Core.Path.{◌≡◌, refl, sym, ap, ◌∙◌}
use mathlib.Core.Bool.{Bool, true, false, cond}
use mathlib.Core.Logic.{⊎_elim}
use mathlib.Core.List.{List, [], ◌∷◌}
use Prim.Native.Nat.{ℕ, zero, suc, ◌<◌}
use native.Mathlib.Nat.{eq-or-lt_of_le, le_of_suc-le-suc, not-suc-le-zero}
use borrow.Author.Tests.{ltb-false}
use lib.Dec.{ltb}
use lib.IntN.{ℤ}
use lib.ListN.{length}
use lib.Ieee.{Float}
use Rattle.transform.specs.Kinds.{places_of, part}
use Rattle.transform.proofs.PartLaws.{part_length}
use Rattle.params.specs.Allowed.{row_at, row_fault}
use Rattle.matrix.specs.Mirror.{mirror}
use Rattle.matrix.specs.Weight.{weights_of}
use Rattle.matrix.specs.Expanded.{reply_of, kind_answer, expand_answer, leaves}
use Rattle.std.specs.Prelude.{Err}
use Rattle.matrix.specs.declared.ExpandError.TheVariants.{Lent, Row, Denom}
use Rattle.promises.proofs.ByNumber.{other, done_only}
use Rattle.promises.proofs.Places.{both}
use Rattle.dequant.specs.Set.{straight_of, transposed_of, straight_arena, transposed_arena, set_lent, denom_fault, kinds_answer, expand_set}
use Rattle.dequant.specs.Views.{Fit}
use Rattle.dequant.proofs.Lent.{fits}
use Rattle.dequant.proofs.Kindwise.{handed, straight_length, transposed_length}
use Rattle.promises.proofs.Arena.{part_is}

pub record Accepted (rows : List ℕ) (zs : List ℤ) (s t : ℕ) : Type 0 where
  pub fit : Fit rows (length zs) s t
  pub each : (k : ℕ) → k < 17 → reply_of (kind_answer (row_at rows k) (part k zs) k) ≡ 0 ∷ []

each_done : (rows : List ℕ) (zs : List ℤ) (n : ℕ) → reply_of (kinds_answer rows zs n) ≡ 0 ∷ [] → (k : ℕ) → k < n → reply_of (kind_answer (row_at rows k) (part k zs) k) ≡ 0 ∷ []
unfolding kinds_answer
each_done rows zs zero e k h = absurd (not-suc-le-zero h)
each_done rows zs (suc n) e k h =
    let b = both (kinds_answer rows zs n) (kind_answer (row_at rows n) (part n zs) n) e in
    ⊎_elim (λ i. ap (λ (j : ℕ). reply_of (kind_answer (row_at rows j) (part j zs) j)) i ∙ b.1) (λ l. each_done rows zs n b.0 k l) (eq-or-lt_of_le (le_of_suc-le-suc h))

pub accepted : (rows : List ℕ) (zs : List ℤ) (s t : ℕ) → reply_of (expand_set rows zs s t) ≡ 0 ∷ [] → Accepted rows zs s t
unfolding expand_set
accepted rows zs s t = go (set_lent rows (length zs) s t) (ltb (row_fault rows) 17) (ltb (denom_fault rows) 17) refl refl refl
  where
    go : (a b c : Bool) → set_lent rows (length zs) s t ≡ a → ltb (row_fault rows) 17 ≡ b → ltb (denom_fault rows) 17 ≡ c
        → reply_of (cond a (cond b (Err (Row (row_fault rows))) (cond c (Err (Denom (denom_fault rows))) (kinds_answer rows zs 17))) (Err Lent)) ≡ 0 ∷ [] → Accepted rows zs s t
    go true true c p q r e = absurd (other 5 (row_fault rows ∷ []) [] e)
    go true false true p q r e = absurd (other 11 (denom_fault rows ∷ []) [] e)
    go true false false p q r e = record { fit = fits rows (length zs) s t p (ltb-false (row_fault rows) 17 q) (ltb-false (denom_fault rows) 17 r); each = each_done rows zs 17 e }
    go false b c p q r e = absurd (other 0 [] [] e)

-- ---- one kind of it, by itself
module _ (rows : List ℕ) (zs : List ℤ) (s t : List Float) (ok : reply_of (expand_set rows zs (length s) (length t)) ≡ 0 ∷ []) (k : ℕ) (h : k < 17) where
  -- `expand_kind`, lent the kind's row, its samples and two outputs of its places, answers DONE
  pub kind_done : reply_of (expand_answer k (row_at rows k) (part k zs) (places_of k) (places_of k)) ≡ 0 ∷ []
  kind_done =
      let a = accepted rows zs (length s) (length t) ok in
      sym (ap (λ (n : ℕ). reply_of (expand_answer k (row_at rows k) (part k zs) n (places_of k))) (part_length k s a.fit.first))
      ∙ sym (ap (λ (n : ℕ). reply_of (expand_answer k (row_at rows k) (part k zs) (length (part k s)) n)) (part_length k t a.fit.second))
      ∙ ap reply_of (handed rows zs s t a.fit k h)
      ∙ a.each k h

  -- and leaves, whatever its outputs held, what `expand` leaves in the kind's part
  pub straight_part : (own : List Float)
      → part k (leaves (expand_set rows zs (length s) (length t)) (straight_arena rows zs) s)
      ≡ leaves (expand_answer k (row_at rows k) (part k zs) (places_of k) (places_of k)) (weights_of (row_at rows k) (part k zs) k) own
  straight_part own = rw (done_only (expand_set rows zs (length s) (length t)) ok, done_only (expand_answer k (row_at rows k) (part k zs) (places_of k) (places_of k)) kind_done) (part_is (straight_of rows zs) (straight_length rows zs) 17 k h)

  pub transposed_part : (own : List Float)
      → part k (leaves (expand_set rows zs (length s) (length t)) (transposed_arena rows zs) t)
      ≡ leaves (expand_answer k (row_at rows k) (part k zs) (places_of k) (places_of k)) (mirror k (weights_of (row_at rows k) (part k zs) k)) own
  transposed_part own = rw (done_only (expand_set rows zs (length s) (length t)) ok, done_only (expand_answer k (row_at rows k) (part k zs) (places_of k) (places_of k)) kind_done) (part_is (transposed_of rows zs) (transposed_length rows zs) 17 k h)
