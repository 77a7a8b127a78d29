-- Sets with raw kinds that are accepted: row 0 raw and 16 defaults behind it, and all 17 raw. So not everything is refused: all samples 1 at the denominator 3c00, which is 1,
-- are accepted, each kind by itself and all 17 as a set. Assumes nothing.
use mathlib.Core.Path.{◌≡◌, refl, sym, ap, ◌∙◌}
use mathlib.Core.Bool.{true, false}
use mathlib.Core.Logic.{◌⊎◌, inl, inr}
use mathlib.Core.List.{List, [], ◌∷◌}
use Prim.Native.Nat.{ℕ, zero, suc, ◌+◌, ◌≤◌, ◌<◌}
use native.Mathlib.Nat.{le_of_eq, le_of_suc-le-suc, lt_of_lt_of_le}
use native.Mathlib.Omega.{arith}
use lib.Dec.{lit≤, lit<}
use lib.IntN.{ℤ, pos}
use lib.ListN.{length, get_or, replicate, length-replicate, get_or-replicate}
use lib.Ieee.{round, mul, of_int, le, ne}
use Rattle.transform.specs.Kinds.{places_of, start_of}
use Rattle.transform.proofs.Laws.{end_le}
use Rattle.bitstream.specs.Half.{half, barred}
use Rattle.params.specs.Allowed.{row_at, mode_at, row_allowed, check_rows, check_reply}
use Rattle.params.proofs.FaultLaws.{allowed_entry}
use Rattle.matrix.specs.Raw.{odd_denominator, odd_row, weight_of, refused}
use Rattle.matrix.specs.Expanded.{reply_of, expand_answer}
use Rattle.matrix.proofs.OddLaws.{not_odd_lem, plain_row, raw_row_lem}
use Rattle.dequant.specs.Set.{set_lent, expand_set}
use Rattle.params.proofs.RawLaws.{all_samples}
use Rattle.dequant.proofs.Lent.{by_samples}
use Rattle.dequant.proofs.Kindwise.{mode_at_lem}
use Rattle.promises.proofs.RowRule.{zero_row, zero_entry, raw_row, raw_entry}
use Rattle.promises.proofs.Headed.{headed, headed_first, headed_row, headed_length, headed_passes}
use Rattle.promises.proofs.Accepts.{Above, lent_alone, raw_accepts}
use Rattle.promises.proofs.DefaultsAccepted.{RawFine, mixed_set}

-- a raw row passes ROW for every kind, if reading lets its denominator pass
pub raw_allowed : (k d : ℕ) → k < 17 → barred d ≡ false → row_allowed k (raw_row d) ≡ true
raw_allowed k d h e = sym (allowed_entry k (raw_row d) (le_of_suc-le-suc h) (raw_entry k d h e))

-- row 0 raw of a denominator, and 16 rows of zeros behind it; and all 17 raw of it
abbrev pub raw_first : ℕ → List ℕ
raw_first d = headed (raw_row d) zero_row

abbrev pub raw_all : ℕ → List ℕ
raw_all d = headed (raw_row d) (raw_row d)

-- the first passes DENOM where the denominator is above zero
pub first_above : (d : ℕ) → odd_denominator d ≡ false → Above (raw_first d)
first_above d e zero h = ap odd_row (headed_first (raw_row d) zero_row refl refl) ∙ raw_row_lem (raw_row d) refl ∙ e
first_above d e (suc k) h = ap odd_row (headed_row (raw_row d) zero_row refl refl k h) ∙ plain_row zero_row (λ z. omega arith)

-- 2,176 numbers with 394,752 samples and two arenas pass LENT
pub whole_lent : (rows : List ℕ) (zs : List ℤ) → length rows ≡ 2176 → length zs ≡ 394752 → set_lent rows (length zs) 394752 394752 ≡ true
whole_lent rows zs l m = sym (by_samples rows (length zs) 394752 394752 true l refl refl (all_samples rows (length zs) m))

-- a place of a kind's part lies in the arena
pub in_arena : (k p : ℕ) → p < places_of k → start_of k + p < 394752
in_arena k p h = go (start_of k) (places_of k) (end_le k) h
  where
    go : (a b : ℕ) → a + b ≤ 394752 → p < b → a + p < 394752
    go a b e g = omega arith

first_fits : places_of 0 ≤ 394752
unfolding places_of
first_fits = lit≤ tt

module _ (d : ℕ) (fine : barred d ≡ false) where
  -- they pass ROW
  pub first_passes : check_reply (check_rows (raw_first d)) ≡ 0 ∷ []
  first_passes = headed_passes (raw_row d) zero_row refl refl (raw_entry 0 d (lit< tt) fine) (λ k h. zero_entry (suc k) h)

  all_passes : check_reply (check_rows (raw_all d)) ≡ 0 ∷ []
  all_passes = headed_passes (raw_row d) (raw_row d) refl refl (raw_entry 0 d (lit< tt) fine) (λ k h. raw_entry (suc k) d h fine)

  pub all_rows : (k : ℕ) → k < 17 → row_at (raw_all d) k ≡ raw_row d
  all_rows zero h = headed_first (raw_row d) (raw_row d) refl refl
  all_rows (suc k) h = headed_row (raw_row d) (raw_row d) refl refl k h

  module _ (above : odd_denominator d ≡ false) (zs : List ℤ) (long : length zs ≡ 394752) where
    -- and are accepted where the denominator is above zero and no sample of a raw kind times the denominator is refused
    first_done : ((i : ℕ) → i < places_of 0 → refused (weight_of (half d) (get_or zs i (pos 0))) ≡ false) → reply_of (expand_set (raw_first d) zs 394752 394752) ≡ 0 ∷ []
    unfolding start_of
    first_done f = mixed_set (raw_first d) zs 394752 394752 (whole_lent (raw_first d) zs (headed_length (raw_row d) zero_row refl refl) long) first_passes each
      where
        each : (k : ℕ) → k < 17 → (mode_at (raw_first d) k ≡ 0) ⊎ RawFine (raw_first d) zs k
        each zero h = inr (record { raw = refl; above = above; fine = λ i g. let z : 0 + i ≡ i = omega arith in ap (λ (j : ℕ). refused (weight_of (half d) (get_or zs j (pos 0)))) z ∙ f i g })
        each (suc k) h = inl (sym (mode_at_lem (raw_first d) (suc k)) ∙ ap (λ (r : List ℕ). get_or r 0 0) (headed_row (raw_row d) zero_row refl refl k h))

    pub all_done : ((i : ℕ) → i < 394752 → refused (weight_of (half d) (get_or zs i (pos 0))) ≡ false) → reply_of (expand_set (raw_all d) zs 394752 394752) ≡ 0 ∷ []
    all_done f =
        mixed_set (raw_all d) zs 394752 394752 (whole_lent (raw_all d) zs (headed_length (raw_row d) (raw_row d) refl refl) long) all_passes
        (λ k h. inr (record {
          raw = sym (mode_at_lem (raw_all d) k) ∙ ap (λ (r : List ℕ). get_or r 0 0) (all_rows k h);
          above = ap (λ (r : List ℕ). odd_denominator (get_or r 3 0)) (all_rows k h) ∙ above;
          fine = λ i g. ap (λ (r : List ℕ). refused (weight_of (half (get_or r 3 0)) (get_or zs (start_of k + i) (pos 0)))) (all_rows k h) ∙ f (start_of k + i) (in_arena k i g);
        }))

  -- so where all n samples are the same one; n is 394,752
  module _ (above : odd_denominator d ≡ false) (z : ℤ) (ok : refused (weight_of (half d) z) ≡ false) (n : ℕ) (whole : n ≡ 394752) where
    same_fine : (i : ℕ) → i < 394752 → refused (weight_of (half d) (get_or (replicate n z) i (pos 0))) ≡ false
    same_fine i h = ap (λ (x : ℤ). refused (weight_of (half d) x)) (get_or-replicate n i z (pos 0) (lt_of_lt_of_le h (le_of_eq (sym whole)))) ∙ ok

    pub first_same : reply_of (expand_set (raw_first d) (replicate n z) 394752 394752) ≡ 0 ∷ []
    first_same = first_done above (replicate n z) (length-replicate n z ∙ whole) (λ i h. same_fine i (lt_of_lt_of_le h first_fits))

    all_same : reply_of (expand_set (raw_all d) (replicate n z) 394752 394752) ≡ 0 ∷ []
    all_same = all_done above (replicate n z) (length-replicate n z ∙ whole) same_fine

-- ---- all samples 1 at the denominator 1
-- 1 times 1 is a weight that is not refused
one_fine : refused (weight_of (half 0x3c00) (pos 1)) ≡ false
unfolding weight_of refused half round mul of_int le ne
one_fine = refl

one_above : odd_denominator 0x3c00 ≡ false
one_above = not_odd_lem 0x3c00 (lit< tt) (lit< tt)

-- each kind by itself, lent its row, 3 x width x height samples of 1 and two outputs of that length, answers DONE
pub ones_done : (k : ℕ) → k < 17 → reply_of (expand_answer k (raw_row 0x3c00) (replicate (places_of k) (pos 1)) (places_of k) (places_of k)) ≡ 0 ∷ []
ones_done k h =
    let zs : List ℤ = replicate (places_of k) (pos 1) in
    raw_accepts k (raw_row 0x3c00) zs (places_of k) (places_of k) (lent_alone k (raw_row 0x3c00) zs h refl (length-replicate (places_of k) (pos 1))) (raw_allowed k 0x3c00 h refl) refl one_above
    (λ i g. ap (λ (z : ℤ). refused (weight_of (half 0x3c00) z)) (get_or-replicate (places_of k) i (pos 1) (pos 0) g) ∙ one_fine)

-- all 17 as a set, lent 394,752 samples of 1 and two arenas of that length, answer DONE
pub ones_set_done : reply_of (expand_set (raw_all 0x3c00) (replicate 394752 (pos 1)) 394752 394752) ≡ 0 ∷ []
ones_set_done = all_same 0x3c00 refl one_above (pos 1) one_fine 394752 refl
