-- When a kind by itself, and when a set, is accepted: it is lent right, its rows pass ROW, no raw denominator is zero or below, and no band and no weight of it is refused. Assumes nothing.
use mathlib.Core.Path.{◌≡◌, refl, sym, ap, ◌∙◌}
use mathlib.Core.Bool.{Bool, true, false, not, cond}
use mathlib.Core.List.{List, [], ◌∷◌}
use Prim.Native.Nat.{ℕ, zero, suc, ◌/◌, ◌%◌, ◌<◌}
use native.Mathlib.Nat.{div-add-mod', le_refl, le_of_eq, le_of_suc-le-suc, lt_of_lt_of_le, le-suc, lt-suc_self}
use native.Mathlib.Omega.{arith}
use borrow.Author.Tests.{le-ltb, ne_eqb}
use lib.IntN.{ℤ, pos}
use lib.ListN.{length, get_or}
use lib.Ieee.{Float, nan}
use Rattle.transform.specs.Kinds.{area_of, places_of, part}
use Rattle.transform.proofs.FirstLaws.{before_every}
use Rattle.bitstream.specs.Half.{half}
use Rattle.params.specs.Allowed.{row_at, mode_at, row_allowed, check_rows, check_reply}
use Rattle.params.specs.Raw.{is_raw, samples_lent}
use Rattle.params.proofs.RawLaws.{raw_none, no_samples}
use Rattle.bands.proofs.TableLaws.{get_d_tab}
use Rattle.std.specs.Prelude.{Ok, Err}
use Rattle.matrix.specs.declared.ExpandError.TheVariants.{Weight}
use Rattle.matrix.specs.Mirror.{passed}
use Rattle.matrix.specs.Raw.{odd_denominator, odd_row, weight_of, refused}
use Rattle.matrix.specs.Numbers.{numbers_of}
use Rattle.matrix.specs.Weight.{weight_at, weights_of}
use Rattle.matrix.specs.Expanded.{Expanded, reply_of, or_else, band_answer, weight_answer, lent_right, kind_answer, expand_answer}
use Rattle.matrix.proofs.Lending.{all_samples, by_samples}
use Rattle.matrix.proofs.OddLaws.{raw_row_lem}
use Rattle.matrix.proofs.Passed.{passed_all}
use Rattle.promises.proofs.Places.{weights_length}
use Rattle.matrix.proofs.RowFacts.{facts, raw_bands}
use Rattle.matrix.proofs.Said.{says_kind, raw_at}
use Rattle.dequant.specs.Set.{kinds_answer, set_lent, expand_set}
use Rattle.dequant.proofs.Lent.{no_odd, says_kinds}
use Rattle.promises.proofs.ByNumber.{done_only}
use Rattle.promises.proofs.RowsChecked.{done_fault}

-- ---- weights
weights_done : (k : ℕ) (ws : List Float) → ((i : ℕ) → i < length ws → refused (get_or ws i nan) ≡ false) → weight_answer k ws ≡ Ok tt
unfolding weight_answer
weights_done k ws f = ap (λ (b : Bool). cond b (Err (Weight k (passed ws / area_of k) (passed ws % area_of k))) (Ok tt)) (le-ltb (passed ws) (length ws) (le_of_eq (sym (passed_all ws f))))

-- ---- BAND and WEIGHT, which come after LENT, ROW and DENOM
-- they let a kind pass whose bands and weights are not refused
pub kind_passes : (k : ℕ) (row : List ℕ) (zs : List ℤ) → reply_of (band_answer (numbers_of row k) k 3) ≡ 0 ∷ [] → ((p : ℕ) → p < places_of k → refused (weight_at row zs k (p / area_of k) (p % area_of k)) ≡ false)
    → reply_of (kind_answer row zs k) ≡ 0 ∷ []
unfolding kind_answer weights_of
kind_passes k row zs b f =
    ap (λ (a : Expanded). reply_of (or_else a (weight_answer k (weights_of row zs k)))) (done_only (band_answer (numbers_of row k) k 3) b)
    ∙ ap reply_of (weights_done k (weights_of row zs k) (λ i h. let g : i < places_of k = lt_of_lt_of_le h (le_of_eq (weights_length row zs k)) in ap refused (get_d_tab (places_of k) (λ p. weight_at row zs k (p / area_of k) (p % area_of k)) i nan g) ∙ f i g))

-- and a raw kind where no sample times the denominator is
pub raw_kind_passes : (k : ℕ) (row : List ℕ) (zs : List ℤ) → row_allowed k row ≡ true → get_or row 0 0 ≡ 7
    → ((i : ℕ) → i < places_of k → refused (weight_of (half (get_or row 3 0)) (get_or zs i (pos 0))) ≡ false) → reply_of (kind_answer row zs k) ≡ 0 ∷ []
raw_kind_passes k row zs ok m f =
    kind_passes k row zs (ap reply_of (raw_bands row k (facts k row ok) m))
    (λ p h. ap refused (raw_at row zs k (p / area_of k) (p % area_of k) m ∙ ap (λ (i : ℕ). weight_of (half (get_or row 3 0)) (get_or zs i (pos 0))) (div-add-mod' p (area_of k))) ∙ f p h)

-- ---- one kind by itself: `expand_kind`
-- its row of 128, all its samples and two outputs of its places are lent right
pub lent_alone : (k : ℕ) (row : List ℕ) (zs : List ℤ) → k < 17 → length row ≡ 128 → length zs ≡ places_of k → lent_right k row (length zs) (places_of k) (places_of k) ≡ true
lent_alone k row zs h l m =
    sym (by_samples k row (length zs) (places_of k) (places_of k) (places_of k) refl true (le_of_suc-le-suc h) l refl refl (all_samples (length zs) (places_of k) (get_or row 0 0) m))

-- where LENT and ROW pass
module _ (k : ℕ) (row : List ℕ) (zs : List ℤ) (s t : ℕ) (lent : lent_right k row (length zs) s t ≡ true) (ok : row_allowed k row ≡ true) where
  -- what DENOM, BAND and WEIGHT let pass is accepted
  pub accepts : odd_row row ≡ false → reply_of (kind_answer row zs k) ≡ 0 ∷ [] → reply_of (expand_answer k row zs s t) ≡ 0 ∷ []
  accepts d e = ap reply_of (sym (says_kind k row zs s t lent ok d)) ∙ e

  -- a kind is accepted where its denominator, if it is raw, and none of its bands and weights is refused
  pub kind_accepts : odd_row row ≡ false → reply_of (band_answer (numbers_of row k) k 3) ≡ 0 ∷ [] → ((p : ℕ) → p < places_of k → refused (weight_at row zs k (p / area_of k) (p % area_of k)) ≡ false)
      → reply_of (expand_answer k row zs s t) ≡ 0 ∷ []
  kind_accepts d b f = accepts d (kind_passes k row zs b f)

  -- a raw kind is where the denominator is above zero and no sample times it is refused
  pub raw_accepts : get_or row 0 0 ≡ 7 → odd_denominator (get_or row 3 0) ≡ false → ((i : ℕ) → i < places_of k → refused (weight_of (half (get_or row 3 0)) (get_or zs i (pos 0))) ≡ false) → reply_of (expand_answer k row zs s t) ≡ 0 ∷ []
  raw_accepts m d f = accepts (raw_row_lem row m ∙ d) (raw_kind_passes k row zs ok m f)

-- ---- a set
-- rows none of which is raw need no samples
pub bare_lent : (rows : List ℕ) → ((k : ℕ) → k < 17 → mode_at rows k ≡ 7 → ⊥) → true ≡ samples_lent rows 0
bare_lent rows f = no_samples rows 0 false (λ e. omega arith) (le_refl 0) (raw_none rows 17 (before_every (λ k. not (is_raw rows k)) 17 (λ k h. ap not (ne_eqb (mode_at rows k) 7 (f k h)))) (le_refl 17) (le_refl 17))

-- kinds that are accepted each by itself are accepted one after the other
pub kinds_done : (rows : List ℕ) (zs : List ℤ) (n : ℕ) → ((k : ℕ) → k < n → reply_of (kind_answer (row_at rows k) (part k zs) k) ≡ 0 ∷ []) → kinds_answer rows zs n ≡ Ok tt
unfolding kinds_answer
kinds_done rows zs zero f = refl
kinds_done rows zs (suc n) f =
    ap (λ (a : Expanded). or_else a (kind_answer (row_at rows n) (part n zs) n)) (kinds_done rows zs n (λ k h. f k (lt_of_lt_of_le h (le-suc n))))
    ∙ done_only (kind_answer (row_at rows n) (part n zs) n) (f n (lt-suc_self n))

-- no raw kind of a set has a denominator of zero or below: DENOM is not given
abbrev pub Above : List ℕ → Type 0
Above rows = (k : ℕ) → k < 17 → odd_row (row_at rows k) ≡ false

-- a set that is lent right, whose rows pass ROW and DENOM and each of whose kinds is accepted, is accepted
pub set_accepts : (rows : List ℕ) (zs : List ℤ) (s t : ℕ) → set_lent rows (length zs) s t ≡ true → check_reply (check_rows rows) ≡ 0 ∷ [] → Above rows
    → ((k : ℕ) → k < 17 → reply_of (kind_answer (row_at rows k) (part k zs) k) ≡ 0 ∷ []) → reply_of (expand_set rows zs s t) ≡ 0 ∷ []
set_accepts rows zs s t lent checked above f = ap reply_of (sym (says_kinds rows zs s t lent (done_fault rows checked).1 (no_odd rows above)) ∙ kinds_done rows zs 17 f)
