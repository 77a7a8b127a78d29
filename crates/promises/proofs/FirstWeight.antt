-- A raw kind 0 by its denominator and its first sample: the weight at place 0, and WEIGHT where that is refused, whatever the other samples are; in a set, and by itself. Assumes nothing.
use mathlib.Core.Path.{◌≡◌, refl, sym, ap, ◌∙◌}
use mathlib.Core.Bool.{Bool, true, false, cond}
use mathlib.Core.List.{List, [], ◌∷◌}
use Prim.Native.Nat.{ℕ, suc, ◌/◌, ◌%◌, ◌<◌}
use native.Mathlib.Nat.{le_of_eq, lt_of_lt_of_le}
use borrow.Author.Tests.{lt-ltb}
use lib.Dec.{ltb, lit<}
use lib.IntN.{ℤ, pos}
use lib.ListN.{length, get_or}
use lib.Ieee.{Float, nan}
use Rattle.transform.specs.Kinds.{width_of, height_of, area_of, places_of, start_of, part}
use Rattle.bitstream.specs.Half.{half, barred}
use Rattle.params.specs.Allowed.{row_at, mode_at, row_allowed, check_rows, check_reply}
use Rattle.std.specs.Prelude.{Ok, Err}
use Rattle.matrix.specs.declared.ExpandError.TheVariants.{Weight}
use Rattle.transform.proofs.FirstLaws.{before_none}
use Rattle.matrix.specs.Mirror.{passing}
use Rattle.matrix.proofs.Passed.{stops as at_first}
use Rattle.matrix.specs.Raw.{odd_denominator, weight_of, refused}
use Rattle.matrix.specs.Weight.{weights_of}
use Rattle.matrix.specs.Expanded.{reply_of, weight_answer, kind_answer, expand_answer}
use Rattle.matrix.proofs.RowFacts.{facts}
use Rattle.matrix.proofs.OddLaws.{raw_row_lem}
use Rattle.matrix.proofs.Said.{says_kind, raw_answer}
use Rattle.dequant.specs.Set.{straight_of, straight_arena, set_lent, kinds_answer, expand_set}
use Rattle.dequant.proofs.Lent.{rows_fine, no_odd, says_kinds}
use Rattle.dequant.proofs.Kindwise.{mode_at_lem, straight_length, stops_answer}
use Rattle.record.proofs.SetStores.{row_first}
use Rattle.promises.proofs.Places.{weights_length}
use Rattle.promises.proofs.RawPlaces.{raw_straight}
use Rattle.promises.proofs.Arena.{part_get, arena_at}
use Rattle.promises.proofs.RowsChecked.{done_fault}
use Rattle.promises.proofs.Accepts.{lent_alone, Above}
use Rattle.promises.proofs.RowRule.{raw_row}
use Rattle.promises.proofs.RawOnes.{raw_allowed}

some_places : 0 < places_of 0
unfolding places_of
some_places = lit< tt

stops : (ws : List Float) → 0 < length ws → refused (get_or ws 0 nan) ≡ true → weight_answer 0 ws ≡ Err (Weight 0 0 0)
unfolding weight_answer area_of
stops ws h e =
    ap (λ (n : ℕ). cond (ltb n (length ws)) (Err (Weight 0 (n / area_of 0) (n % area_of 0))) (Ok tt)) (sym (at_first ws 0 (before_none (passing ws)) h e))
    ∙ ap (λ (b : Bool). cond b (Err (Weight 0 0 0)) (Ok tt)) (lt-ltb 0 (length ws) h)

-- ---- the kind's row and samples
module _ (row : List ℕ) (zs : List ℤ) (d : ℕ) (z : ℤ) (raw : get_or row 0 0 ≡ 7) (denominator : get_or row 3 0 ≡ d) (first : get_or zs 0 (pos 0) ≡ z) where
  place_first : get_or (weights_of row zs 0) 0 nan ≡ weight_of (half d) z
  unfolding width_of height_of area_of
  place_first = raw_straight 0 0 0 0 (lit< tt) (lit< tt) (lit< tt) row zs raw ∙ ap (λ (e : ℕ). weight_of (half e) (get_or zs 0 (pos 0))) denominator ∙ ap (weight_of (half d)) first

  refuses : row_allowed 0 row ≡ true → refused (weight_of (half d) z) ≡ true → Err (Weight 0 0 0) ≡ kind_answer row zs 0
  refuses ok e =
      sym (stops (weights_of row zs 0) (lt_of_lt_of_le some_places (le_of_eq (sym (weights_length row zs 0)))) (ap refused place_first ∙ e))
      ∙ raw_answer 0 row zs (facts 0 row ok) raw

-- ---- in a set
-- its row 0 is raw with denominator d, and its first sample is z
pub record Begins (rows : List ℕ) (zs : List ℤ) (d : ℕ) (z : ℤ) : Type 0 where
  pub raw : mode_at rows 0 ≡ 7
  pub denominator : get_or rows 3 0 ≡ d
  pub first : get_or zs 0 (pos 0) ≡ z

module _ (rows : List ℕ) (zs : List ℤ) (d : ℕ) (z : ℤ) (b : Begins rows zs d z) where
  own_mode : get_or (row_at rows 0) 0 0 ≡ 7
  own_mode = mode_at_lem rows 0 ∙ b.raw

  own_denominator : get_or (row_at rows 0) 3 0 ≡ d
  own_denominator = row_first rows 0 3 (lit< tt) ∙ b.denominator

  own_first : get_or (part 0 zs) 0 (pos 0) ≡ z
  unfolding start_of
  own_first = part_get 0 0 zs (pos 0) some_places ∙ b.first

  -- place 0 of the straight arena holds the first sample's weight
  pub set_first : get_or (straight_arena rows zs) 0 nan ≡ weight_of (half d) z
  unfolding start_of
  set_first = arena_at (straight_of rows zs) (straight_length rows zs) 0 0 (lit< tt) some_places ∙ place_first (row_at rows 0) (part 0 zs) d z own_mode own_denominator own_first

  -- where that is refused and LENT, ROW and DENOM pass, the reply is WEIGHT with kind 0, channel 0, place 0
  pub set_refused : (s t : ℕ) → set_lent rows (length zs) s t ≡ true → check_reply (check_rows rows) ≡ 0 ∷ [] → Above rows → refused (weight_of (half d) z) ≡ true
      → reply_of (expand_set rows zs s t) ≡ 8 ∷ 0 ∷ 0 ∷ 0 ∷ []
  unfolding kinds_answer
  set_refused s t lent checked above e =
      let fault = (done_fault rows checked).1 in
      sym (ap reply_of (stops_answer rows zs 0 (Err (Weight 0 0 0)) refl (refuses (row_at rows 0) (part 0 zs) d z own_mode own_denominator own_first (rows_fine rows fault 0 (lit< tt)) e) refl (lit< tt)
      ∙ says_kinds rows zs s t lent fault (no_odd rows above)))

-- ---- by itself
-- a raw row of kind 0 that passes ROW and DENOM, with denominator d, and 192 samples of which the first is z
pub record Raw (row : List ℕ) (zs : List ℤ) (d : ℕ) (z : ℤ) : Type 0 where
  pub slots : length row ≡ 128
  pub fine : row_allowed 0 row ≡ true
  pub raw : get_or row 0 0 ≡ 7
  pub denominator : get_or row 3 0 ≡ d
  pub above : odd_denominator d ≡ false
  pub samples : length zs ≡ 192
  pub first : get_or zs 0 (pos 0) ≡ z

module _ (row : List ℕ) (zs : List ℤ) (d : ℕ) (z : ℤ) (r : Raw row zs d z) where
  -- the weight at place 0 is the first sample's
  pub first_weight : get_or (weights_of row zs 0) 0 nan ≡ weight_of (half d) z
  first_weight = place_first row zs d z r.raw r.denominator r.first

  -- where it is refused, the reply is WEIGHT with kind 0, channel 0, place 0
  pub first_refused : refused (weight_of (half d) z) ≡ true → reply_of (expand_answer 0 row zs 192 192) ≡ 8 ∷ 0 ∷ 0 ∷ 0 ∷ []
  unfolding places_of
  first_refused e = sym (ap reply_of (refuses row zs d z r.raw r.denominator r.first r.fine e ∙ says_kind 0 row zs 192 192 (lent_alone 0 row zs (lit< tt) r.slots r.samples) r.fine (raw_row_lem row r.raw ∙ ap odd_denominator r.denominator ∙ r.above)))

-- there are such rows: for every denominator above zero that reading lets pass, every first sample and every further 191
pub raw_there : (d : ℕ) (z : ℤ) (zs : List ℤ) → barred d ≡ false → odd_denominator d ≡ false → length zs ≡ 191 → Raw (raw_row d) (z ∷ zs) d z
raw_there d z zs e above l = record {
  slots = refl;
  fine = raw_allowed 0 d (lit< tt) e;
  raw = refl;
  denominator = refl;
  above = above;
  samples = ap suc l;
  first = refl;
}
