-- DENOM, exactly when: for one kind and for a set. And what is so where it isn't given: in what is accepted every raw denominator and every raw sample is above zero. Assumes nothing.
use mathlib.Core.Path.{◌≡◌, refl, sym, ap, ◌∙◌, subst}
use mathlib.Core.Logic.{◌↔◌, ◌⊎◌, inl, inr, ⊎_elim}
use mathlib.Core.Bool.{Bool, true, false, not, cond, true≢false}
use mathlib.Core.List.{List, [], ◌∷◌}
use Prim.Native.Nat.{ℕ, zero, suc, ◌+◌, ◌/◌, ◌%◌, ◌≤◌, ◌<◌}
use native.Mathlib.Nat.{le_of_eq, lt_of_lt_of_le, div-add-mod'}
use native.Mathlib.Decide.{ℕ_discrete}
use native.Mathlib.Omega.{arith}
use borrow.Author.Tests.{le-leb, leb-true, ltb-true, ltb-false, not-true, not-false}
use lib.Dec.{T, ltb, lt→ltb}
use lib.IntN.{ℤ, pos, negsuc, nat_abs}
use lib.Signed.{lt_z}
use lib.ListN.{length, get_or}
use lib.Ieee.{Float, nan, inf, fin, le, lt}
use lib.Ieee.Exact.{HasValue}
use lib.Ieee.Positive.{positive}
use Rattle.transform.specs.Kinds.{area_of, places_of, start_of, part}
use Rattle.transform.proofs.FirstLaws.{before_stop, before_every, passed_before, fails_at}
use Rattle.transform.proofs.Laws.{side}
use Rattle.bitstream.specs.Half.{half, barred}
use Rattle.bitstream.proofs.HalfLaws.{half_exact}
use Rattle.params.specs.Allowed.{row_at, mode_at, row_fault, row_allowed, check_rows, check_reply}
use Rattle.params.proofs.FaultLaws.{check_done}
use Rattle.bands.specs.Bands.{nought, one}
use Rattle.bands.proofs.TableLaws.{get_d_tab}
use Rattle.matrix.specs.Raw.{odd_denominator, odd_row, weight_of, refused}
use Rattle.matrix.specs.Weight.{weight_at, weights_of}
use Rattle.std.specs.Prelude.{Err}
use Rattle.matrix.specs.declared.ExpandError.TheVariants.{Lent, Row, Denom}
use Rattle.matrix.specs.Expanded.{Expanded, reply_of, is_done, or_else, leaves, lent_right, kind_answer, expand_answer}
use Rattle.matrix.proofs.OddLaws.{odd_zero, odd_sign, plain_row, raw_row_lem}
use Rattle.matrix.proofs.Passed.{all_pass}
use Rattle.matrix.proofs.Replies.{done_is, stops}
use Rattle.matrix.proofs.Said.{says_denom, raw_at}
use Rattle.dequant.specs.Set.{set_lent, denom_fault, kinds_answer, expand_set}
use Rattle.dequant.proofs.Kindwise.{mode_at_lem, refusal_leaves}
use Rattle.dequant.proofs.Lent.{given, not_odd, denoms_above, says_denom as set-says-denom}
use Rattle.promises.proofs.ByNumber.{denom_only}
use Rattle.transform.proofs.Numbered.{differs}
use Rattle.promises.proofs.RowsChecked.{done_fault}
use Rattle.promises.proofs.RowRule.{raw_row}
use Rattle.promises.proofs.Accepts.{lent_alone}
use Rattle.promises.proofs.RawOnes.{raw_allowed}
use Rattle.promises.proofs.Distinct.{accepted, above_nought, sign, positive_sign, weight_sign, weight_some}
use Rattle.promises.proofs.WeightRange.{over_zero}
use Rattle.promises.proofs.Places.{done_says, weights_length}
use Rattle.promises.proofs.Arena.{part_get}
use Rattle.promises.proofs.AcceptedSet.{kind_done}

-- ---- which half floats are refused as denominators: 0000, and those from 8000, which is minus zero, on
pub odd_exactly : (h : ℕ) → (odd_denominator h ≡ true) ↔ ((h ≡ 0) ⊎ (32768 ≤ h))
odd_exactly h = (λ e. go (ℕ_discrete h 0) e, ⊎_elim (λ z. sym (odd_zero h z)) (λ l. sym (odd_sign h (λ z. omega arith)) ∙ le-leb 32768 h l))
  where
    go : Dec (h ≡ 0) → odd_denominator h ≡ true → (h ≡ 0) ⊎ (32768 ≤ h)
    go (yes z) e = inl z
    go (no n) e = inr (leb-true 32768 h (odd_sign h n ∙ e))

-- a row is raw, and its denominator is zero or below
pub record Odd (row : List ℕ) : Type 0 where
  pub raw : get_or row 0 0 ≡ 7
  pub denominator : le (half (get_or row 3 0)) nought ≡ true

row_odd : (row : List ℕ) → odd_row row ≡ true → Odd row
unfolding odd_denominator
row_odd row e = go (ℕ_discrete (get_or row 0 0) 7)
  where
    go : Dec (get_or row 0 0 ≡ 7) → Odd row
    go (yes m) = record { raw = m; denominator = sym (raw_row_lem row m) ∙ e }
    go (no n) = absurd (true≢false (sym e ∙ plain_row row n))

odd_row_lem : (row : List ℕ) → Odd row → odd_row row ≡ true
unfolding odd_denominator
odd_row_lem row o = raw_row_lem row o.raw ∙ o.denominator

not_odd_row : (row : List ℕ) → (Odd row → ⊥) → odd_row row ≡ false
not_odd_row row n = go (odd_row row) refl
  where
    go : (b : Bool) → odd_row row ≡ b → odd_row row ≡ false
    go true e = absurd (n (row_odd row e))
    go false e = e

-- ---- BAND and WEIGHT clear the outputs, which DENOM does not: so neither is DENOM
kind_not : (row : List ℕ) (zs : List ℤ) (k j : ℕ) → kind_answer row zs k ≡ Err (Denom j) → ⊥
kind_not row zs k j e = true≢false (sym (ap (λ (l : List Float). positive (get_or l 0 nan)) cleared))
  where
    cleared : nought ∷ [] ≡ one ∷ []
    cleared = refusal_leaves row zs k (Err (Denom j)) [] (one ∷ []) (one ∷ []) (nought ∷ []) (sym e) refl refl refl

kinds_not : (rows : List ℕ) (zs : List ℤ) (n j : ℕ) → kinds_answer rows zs n ≡ Err (Denom j) → ⊥
unfolding kinds_answer
kinds_not rows zs zero j e = true≢false (ap is_done e)
kinds_not rows zs (suc n) j e = go (is_done (kinds_answer rows zs n)) refl (kinds_not rows zs n j)
  where
    go : (b : Bool) → is_done (kinds_answer rows zs n) ≡ b → (kinds_answer rows zs n ≡ Err (Denom j) → ⊥) → ⊥
    go true d r = kind_not (row_at rows n) (part n zs) n j (sym (ap (λ (a : Expanded). or_else a (kind_answer (row_at rows n) (part n zs) n)) (done_is (kinds_answer rows zs n) d)) ∙ e)
    go false d r = r (sym (stops (kinds_answer rows zs n) (kind_answer (row_at rows n) (part n zs) n) d) ∙ e)

-- ---- one kind: DENOM exactly where LENT and ROW pass, the row is raw and its denominator zero or below; it names that kind
pub denom_exactly : (k : ℕ) (row : List ℕ) (zs : List ℤ) (s t j : ℕ) → (reply_of (expand_answer k row zs s t) ≡ 12 ∷ j ∷ []) ↔ ((lent_right k row (length zs) s t ≡ true) × (row_allowed k row ≡ true) × Odd row × (j ≡ k))
unfolding expand_answer
denom_exactly k row zs s t j = (
  go (lent_right k row (length zs) s t) (row_allowed k row) (odd_row row) refl refl refl,
  λ (p, q, o, z). ap reply_of (sym (says_denom k row zs s t p q (odd_row_lem row o))) ∙ ap (λ (n : ℕ). 12 ∷ n ∷ []) (sym z),
)
  where
    go : (a b c : Bool) → lent_right k row (length zs) s t ≡ a → row_allowed k row ≡ b → odd_row row ≡ c → reply_of (cond a (cond b (cond c (Err (Denom k)) (kind_answer row zs k)) (Err (Row k))) (Err Lent)) ≡ 12 ∷ j ∷ []
        → (lent_right k row (length zs) s t ≡ true) × (row_allowed k row ≡ true) × Odd row × (j ≡ k)
    go true true true p q r e = (p, q, row_odd row r, sym (ap (λ (l : List ℕ). get_or l 1 0) e))
    go true true false p q r e = absurd (kind_not row zs k j (denom_only (kind_answer row zs k) j e))
    go true false c p q r e = absurd (differs 6 12 (k ∷ []) (j ∷ []) refl e)
    go false b c p q r e = absurd (differs 1 12 [] (j ∷ []) refl e)

-- so a raw kind by itself, whatever its samples, for every such denominator that reading lets pass
pub odd_alone : (k d : ℕ) (zs : List ℤ) → k < 17 → barred d ≡ false → odd_denominator d ≡ true → length zs ≡ places_of k → reply_of (expand_answer k (raw_row d) zs (places_of k) (places_of k)) ≡ 12 ∷ k ∷ []
odd_alone k d zs h e o l = ap reply_of (sym (says_denom k (raw_row d) zs (places_of k) (places_of k) (lent_alone k (raw_row d) zs h refl l) (raw_allowed k d h e) (raw_row_lem (raw_row d) refl ∙ o)))

-- ---- a set
-- kind k is raw with a denominator of zero or below, and no lower one is
pub record Lowest (rows : List ℕ) (k : ℕ) : Type 0 where
  pub kind : k < 17
  pub odd : Odd (row_at rows k)
  pub first : (j : ℕ) → j < k → Odd (row_at rows j) → ⊥

module _ (rows : List ℕ) where
  fault_lowest : (k : ℕ) → denom_fault rows ≡ k → k < 17 → Lowest rows k
  unfolding denom_fault
  fault_lowest k z h = record {
    kind = h;
    odd = row_odd (row_at rows k) (not-false (odd_row (row_at rows k)) (sym (ap (not_odd rows) z) ∙ fails_at (not_odd rows) 17 (subst (λ (n : ℕ). n < 17) (sym z) h)));
    first = λ j l o. true≢false (sym (odd_row_lem (row_at rows j) o) ∙ not-true (odd_row (row_at rows j)) (passed_before (not_odd rows) 17 j (subst (λ (n : ℕ). j < n) (sym z) l)));
  }

  lowest_fault : (k : ℕ) → Lowest rows k → k ≡ denom_fault rows
  unfolding denom_fault
  lowest_fault k o =
      sym (before_stop (not_odd rows) k 17 (before_every (not_odd rows) k (λ j l. ap not (not_odd_row (row_at rows j) (o.first j l)))) (ap not (odd_row_lem (row_at rows k) o.odd)) o.kind)

-- DENOM with a kind exactly where LENT and ROW pass and that is the lowest such kind, whatever BAND and WEIGHT would say of any kind
pub set_denom_exactly : (rows : List ℕ) (zs : List ℤ) (s t k : ℕ) → (reply_of (expand_set rows zs s t) ≡ 12 ∷ k ∷ []) ↔ ((set_lent rows (length zs) s t ≡ true) × (check_reply (check_rows rows) ≡ 0 ∷ []) × Lowest rows k)
unfolding expand_set
set_denom_exactly rows zs s t k = (
  go (set_lent rows (length zs) s t) (ltb (row_fault rows) 17) (ltb (denom_fault rows) 17) refl refl refl,
  λ (p, q, o). ap reply_of (sym (set-says-denom rows zs s t k p (done_fault rows q).1 (lowest_fault rows k o) o.kind)),
)
  where
    go : (a b c : Bool) → set_lent rows (length zs) s t ≡ a → ltb (row_fault rows) 17 ≡ b → ltb (denom_fault rows) 17 ≡ c
        → reply_of (cond a (cond b (Err (Row (row_fault rows))) (cond c (Err (Denom (denom_fault rows))) (kinds_answer rows zs 17))) (Err Lent)) ≡ 12 ∷ k ∷ []
        → (set_lent rows (length zs) s t ≡ true) × (check_reply (check_rows rows) ≡ 0 ∷ []) × Lowest rows k
    go true true c p q r e = absurd (differs 6 12 (row_fault rows ∷ []) (k ∷ []) refl e)
    go true false true p q r e =
        let z : denom_fault rows ≡ k = ap (λ (l : List ℕ). get_or l 1 0) e in
        (p, ap check_reply (sym (check_done rows (given rows (length zs) s t p).slots (ltb-false (row_fault rows) 17 q))), fault_lowest rows k z (subst (λ (n : ℕ). n < 17) z (ltb-true (denom_fault rows) 17 r)))
    go true false false p q r e = absurd (kinds_not rows zs 17 k (denom_only (kinds_answer rows zs 17) k e))
    go false b c p q r e = absurd (differs 1 12 [] (k ∷ []) refl e)

-- so it is given exactly where LENT and ROW pass and some kind is such a one
pub set_denom_some : (rows : List ℕ) (zs : List ℤ) (s t : ℕ)
    → ((k : ℕ) × (reply_of (expand_set rows zs s t) ≡ 12 ∷ k ∷ [])) ↔ ((set_lent rows (length zs) s t ≡ true) × (check_reply (check_rows rows) ≡ 0 ∷ []) × ((k : ℕ) × (k < 17) × Odd (row_at rows k)))
set_denom_some rows zs s t = (
  λ (k, e). let (p, q, o) = (set_denom_exactly rows zs s t k).0 e in (p, q, (k, o.kind, o.odd)),
  λ (p, q, (k, h, o)). (denom_fault rows, (set_denom_exactly rows zs s t (denom_fault rows)).1 (p, q, fault_lowest rows (denom_fault rows) refl (under k h o))),
)
  where
    under : (k : ℕ) → k < 17 → Odd (row_at rows k) → denom_fault rows < 17
    under k h o = ⊎_elim (λ l. l) (λ g. absurd (true≢false (sym (odd_row_lem (row_at rows k) o) ∙ denoms_above rows g k h))) (side (denom_fault rows) 17)

-- and it leaves both outputs as they were
pub denom_keeps : (a : Expanded) (k : ℕ) (ws s : List Float) → reply_of a ≡ 12 ∷ k ∷ [] → leaves a ws s ≡ s
denom_keeps a k ws s e = ap (λ (x : Expanded). leaves x ws s) (denom_only a k e)

-- ---- in what is accepted
-- a sample above zero: it and its magnitude are one
pub record AboveZero (z : ℤ) : Type 0 where
  pub above : T (lt_z (pos 0) z)
  pub magnitude : z ≡ pos (nat_abs z)

sample_above : (d : Float) (z : ℤ) → T (positive d) → refused (weight_of d z) ≡ false → AboveZero z
sample_above d z p e = let w = accepted (weight_of d z) e in go z (weight_sign d z w ∙ positive_sign d p) (weight_some d z w)
  where
    go : (z : ℤ) → sign z ≡ false → 0 < nat_abs z → AboveZero z
    go (pos n) s h = record { above = lt→ltb 0 n h; magnitude = refl }
    go (negsuc n) s h = absurd (true≢false s)

value_above : (x : Float) (s : Bool) (a c : ℕ) → HasValue x s a c → le x nought ≡ false → T (positive x)
value_above nan s a c h e = absurd h
value_above (inf t) s a c h e = absurd h
value_above (fin t m k) s a c h e = above_nought t m k e

-- one kind, where `expand_kind` replies 0 to a raw row
module _ (k : ℕ) (row : List ℕ) (zs : List ℤ) (s t : ℕ) (ok : reply_of (expand_answer k row zs s t) ≡ 0 ∷ []) (raw : get_or row 0 0 ≡ 7) where
  half_above : T (positive (half (get_or row 3 0)))
  unfolding odd_denominator
  half_above = value_above (half (get_or row 3 0)) _ _ _ (half_exact (get_or row 3 0)) (sym (raw_row_lem row raw) ∙ (done_says k row zs s t ok).above)

  -- its denominator is above zero
  pub kind_denominator_above : T (lt nought (half (get_or row 3 0)))
  kind_denominator_above = over_zero (half (get_or row 3 0)) half_above

  -- and each of its samples is, in every channel
  pub kind_sample_above : (p : ℕ) → p < places_of k → AboveZero (get_or zs p (pos 0))
  kind_sample_above p h = sample_above (half (get_or row 3 0)) (get_or zs p (pos 0)) half_above (sym (ap refused weighed) ∙ all_pass (weights_of row zs k) p (done_says k row zs s t ok).all (lt_of_lt_of_le h (le_of_eq (sym (weights_length row zs k)))))
    where
      weighed : get_or (weights_of row zs k) p nan ≡ weight_of (half (get_or row 3 0)) (get_or zs p (pos 0))
      weighed =
          unfold weights_of in get_d_tab (places_of k) (λ p. weight_at row zs k (p / area_of k) (p % area_of k)) p nan h
          ∙ raw_at row zs k (p / area_of k) (p % area_of k) raw
          ∙ ap (λ (i : ℕ). weight_of (half (get_or row 3 0)) (get_or zs i (pos 0))) (div-add-mod' p (area_of k))

-- a set, where `expand` replies 0: every raw kind of it
module _ (rows : List ℕ) (zs : List ℤ) (s t : List Float) (ok : reply_of (expand_set rows zs (length s) (length t)) ≡ 0 ∷ []) (k : ℕ) (h : k < 17) (raw : mode_at rows k ≡ 7) where
  pub set_denominator_above : T (lt nought (half (get_or (row_at rows k) 3 0)))
  set_denominator_above = kind_denominator_above k (row_at rows k) (part k zs) (places_of k) (places_of k) (kind_done rows zs s t ok k h) (mode_at_lem rows k ∙ raw)

  pub set_sample_above : (p : ℕ) → p < places_of k → AboveZero (get_or zs (start_of k + p) (pos 0))
  set_sample_above p l = subst AboveZero (part_get k p zs (pos 0) l) (kind_sample_above k (row_at rows k) (part k zs) (places_of k) (places_of k) (kind_done rows zs s t ok k h) (mode_at_lem rows k ∙ raw) p l)
