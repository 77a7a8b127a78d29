-- The default of every kind is accepted, alone and as a set: by the law of tame numbers, with the bands of the defaults tested by computation. Assumes nothing.
use mathlib.Core.Logic.{◌⊎◌, inl, ⊎_elim}
use mathlib.Core.Path.{◌≡◌, refl, sym, ap, ◌∙◌, subst}
use mathlib.Core.Bool.{Bool, true, false, cond, not, ◌&&◌, ◌||◌, true≢false}
use mathlib.Core.List.{List, [], ◌∷◌}
use Prim.Native.Nat.{ℕ, zero, suc, ◌+◌, ◌*◌, ◌^◌, ◌≤◌, ◌<◌}
use native.Mathlib.Nat.{le_refl, le_trans, le_of_eq, le-suc, lt_of_lt_of_le, le_of_suc-le-suc, mul_comm, mul_assoc, mul_right_comm, mul-le-mul, mul-le-mul_right, le_of_mul-le-mul_right}
use native.Mathlib.Omega.{arith}
use borrow.Author.Tests.{eq-eqb, le-leb}
use lib.Dec.{T, leb, eqb, leb→le, lit<}
use lib.IntN.{ℤ, pos}
use lib.ListN.{length, get_or, replicate, get_or-replicate}
use lib.Seq.{get_or-set_other}
use lib.Ieee.{Float, nan, binary32, fits, mul, add, sub, div, lt}
use lib.Ieee.Exact.{HasValue}
use lib.Ieee.Fits.{and_l, and_r}
use lib.Ieee.Positive.{num, den, den_pos, positive, positive-finite, value→cross}
use Rattle.transform.proofs.Laws.{below, at}
use Rattle.bands.specs.Bands.{at_of, band_at, mult_of}
use Rattle.bands.proofs.TableLaws.{get_d_tab}
use Rattle.bands.proofs.WholeUnits.{whole_number, plain}
use Rattle.bands.proofs.Ranged.{Banded}
use Rattle.matrix.specs.Raw.{odd_denominator, odd_row, weight_of, refused}
use Rattle.matrix.specs.Defaults.{default_mode}
use Rattle.matrix.specs.Numbers.{each, read_numbers, default_numbers, default_value, numbers_of, number_of, count, begins, band_number}
use Rattle.transform.specs.Kinds.{places_of, start_of, part}
use Rattle.bitstream.specs.Half.{half}
use Rattle.params.specs.Header.{all_default}
use Rattle.params.specs.Allowed.{row_at, mode_at, check_rows, check_reply}
use Rattle.params.proofs.FaultLaws.{allowed_entry}
use Rattle.matrix.specs.declared.numbers.Numbers.{Numbers}
use Rattle.matrix.specs.Expanded.{reply_of, kind_answer, expand_answer}
use Rattle.matrix.specs.Views.{Shaped}
use Rattle.matrix.proofs.Lending.{by_samples}
use Rattle.matrix.proofs.OddLaws.{plain_row, raw_row_lem}
use Rattle.matrix.proofs.Meaning.{default_shaped}
use Rattle.dequant.specs.Set.{set_lent, expand_set}
use Rattle.dequant.proofs.Lent.{rows_fine, by_samples as set-by-samples}
use Rattle.dequant.proofs.Kindwise.{mode_at_lem}
use Rattle.promises.proofs.RowRule.{zero_row, zero_entry}
use Rattle.promises.proofs.RowsChecked.{done_fault}
use Rattle.promises.proofs.Headed.{headed_passes}
use Rattle.promises.proofs.ReadPasses.{default_passes}
use Rattle.promises.proofs.Arena.{part_get}
use Rattle.promises.proofs.Accepts.{raw_kind_passes, accepts, bare_lent, set_accepts}
use Rattle.promises.proofs.RowNumbers.{list_number, own_list, at_place, place, inside, defaults_room}
use Rattle.promises.proofs.Tame.{Moderate, Divisor, used, Tame, tame_passes}

-- ---- the test: an f32 from 2 ^ -24 to 2 ^ 40; and one from 1/2 to 2
abbrev spans : ℕ → ℕ → Float → Bool
spans K H x = (fits binary32 x && positive x) && (leb (den x) (num x * K) && leb (num x) (H * den x))

first_low : (u d g L K : ℕ) → 0 < d → u * (K * L) ≡ g * d → d ≤ u * K → L ≤ g
first_low u d g L K D e h = le_of_mul-le-mul_right {k = d} (le_trans (le_of_eq (mul_comm L d)) (le_trans (mul-le-mul_right L h) (le_of_eq (mul_assoc u K L ∙ e)))) D

first_high : (u d g L K : ℕ) → 0 < d → u * L ≡ g * d → u ≤ K * d → g ≤ K * L
first_high u d g L K D e h = le_of_mul-le-mul_right {k = d} (le_trans (le_of_eq (sym e)) (le_trans (mul-le-mul_right L h) (le_of_eq (mul_right_comm K d L)))) D

spans_banded : (K H lo : ℕ) (x : Float) → K * lo ≡ 2 ^ 149 → T (spans K H x) → Banded lo (H * 2 ^ 149) x
spans_banded K H lo x e t =
    let t1 : T (fits binary32 x && positive x) = and_l (fits binary32 x && positive x) (leb (den x) (num x * K) && leb (num x) (H * den x)) t in
    let t2 : T (leb (den x) (num x * K) && leb (num x) (H * den x)) = and_r (fits binary32 x && positive x) (leb (den x) (num x * K) && leb (num x) (H * den x)) t in
    let p : T (positive x) = and_r (fits binary32 x) (positive x) t1 in
    let w = whole_number x (and_l (fits binary32 x) (positive x) t1) (positive-finite x p) in
    let v : HasValue x false w.g (2 ^ 149) = plain x w.sign w.g (2 ^ 149) p w.value in
    let z : num x * 2 ^ 149 ≡ w.g * den x = value→cross x w.g (2 ^ 149) v in
    record {
      at = w.g;
      value = v;
      most = first_high (num x) (den x) w.g (2 ^ 149) H (den_pos x) z (leb→le (num x) (H * den x) (and_r (leb (den x) (num x * K)) (leb (num x) (H * den x)) t2));
      least = first_low (num x) (den x) w.g lo K (den_pos x) (ap (λ (y : ℕ). num x * y) e ∙ z) (leb→le (den x) (num x * K) (and_l (leb (den x) (num x * K)) (leb (num x) (H * den x)) t2));
    }

abbrev fair_test : Float → Bool
fair_test x = spans (2 ^ 24) (2 ^ 40) x

abbrev divisor_test : Float → Bool
divisor_test x = spans 2 2 x

fair_banded : (x : Float) → T (fair_test x) → Moderate x
fair_banded x t = spans_banded (2 ^ 24) (2 ^ 40) (2 ^ 125) x refl t

divisor_banded : (x : Float) → T (divisor_test x) → Divisor x
divisor_banded x t = spans_banded 2 2 (2 ^ 148) x refl t

-- ---- by computation, over the table of defaults
abbrev list_value : ℕ → ℕ → ℕ → ℕ → Float
list_value k l c i = default_value k (begins (default_numbers k) l + (c * count (default_numbers k) l + i))

abbrev band_test : ℕ → ℕ → Bool
band_test k l = below (λ c. below (λ i. fair_test (band_at (list_value k l c) i)) (count (default_numbers k) l)) 3

bands_tested : T (below (λ k. band_test k 0 && band_test k 1) 17)
unfolding default_value band_at mult_of fits mul div add sub lt
bands_tested = tt

abbrev number_test : ℕ → Bool
number_test k = below (λ c. below (λ i. fair_test (default_value k (c * each (default_mode k) + i))) (used (default_mode k))) 3

numbers_tested : T (below number_test 17)
unfolding default_value fits
numbers_tested = tt

abbrev divisors : ℕ → Bool
divisors m = leb 3 m && leb m 4

abbrev divisors_test : ℕ → Bool
divisors_test k = below (λ c. below (λ i. divisor_test (default_value k (c * each (default_mode k) + i))) (used (default_mode k))) 3

divisors_tested : T (below (λ k. not (divisors (default_mode k)) || divisors_test k) 17)
unfolding default_value fits
divisors_tested = tt

abbrev own_values : ℕ → ℕ → List Float
own_values k c = default_value k (c * 9 + 5) ∷ default_value k (c * 9 + 6) ∷ default_value k (c * 9 + 7) ∷ default_value k (c * 9 + 8) ∷ []

abbrev own_test : ℕ → Bool
own_test k = below (λ c. below (λ i. fair_test (band_at (at_of (own_values k c)) i)) 4) 3

own_tested : T (below (λ k. not (eqb (default_mode k) 5) || own_test k) 17)
unfolding default_value band_at mult_of fits mul div add sub lt
own_tested = tt

-- ---- so the defaults are tame
or_right : (a b : Bool) → T (not a || b) → a ≡ true → T b
or_right true b t e = t
or_right false b t e = absurd (true≢false (sym e))

band_same : (f g : ℕ → Float) (i : ℕ) → ((j : ℕ) → j ≤ i → f j ≡ g j) → band_at f i ≡ band_at g i
unfolding band_at
band_same f g zero h = h 0 (le_refl 0)
band_same f g (suc i) h =
    ap (λ (x : Float). mul binary32 x (mult_of (f (suc i)))) (band_same f g i (λ j l. h j (le_trans l (le-suc i))))
    ∙ ap (λ (x : Float). mul binary32 (band_at g i) (mult_of x)) (h (suc i) (le_refl (suc i)))

module _ (k : ℕ) (named : k < 17) where
  list_value_lem : (l c i : ℕ) → c < 3 → i < count (default_numbers k) l → list_number (default_numbers k) l c i ≡ list_value k l c i
  unfolding band_number
  list_value_lem l c i h g =
      at_place (default_numbers k) l c i h g
      ∙ get_d_tab 123 (default_value k) (begins (default_numbers k) l + (c * count (default_numbers k) l + i)) nan
      (place (default_numbers k) l (c * count (default_numbers k) l + i) (defaults_room k named) (inside c i (count (default_numbers k) l) h g))

  list_tested : (l : ℕ) → T (band_test k l)
  list_tested zero = and_l (band_test k 0) (band_test k 1) (at (λ k. band_test k 0 && band_test k 1) 17 bands_tested k named)
  list_tested (suc l) = and_r (band_test k 0) (band_test k 1) (at (λ k. band_test k 0 && band_test k 1) 17 bands_tested k named)

  bands_fair : (l c i : ℕ) → c < 3 → i < count (default_numbers k) l → Moderate (band_at (list_number (default_numbers k) l c) i)
  bands_fair l c i h g =
      subst Moderate (sym (band_same (list_number (default_numbers k) l c) (list_value k l c) i (λ j z. list_value_lem l c j h (native.Mathlib.Nat.lt_of_le_of_lt z g))))
      (fair_banded (band_at (list_value k l c) i)
      (at (λ i. fair_test (band_at (list_value k l c) i)) (count (default_numbers k) l) (at (λ c. below (λ i. fair_test (band_at (list_value k l c) i)) (count (default_numbers k) l)) 3 (list_tested l) c h) i g))

  few_each : each (default_mode k) ≤ 9
  few_each = leb→le (each (default_mode k)) 9 (at (λ k. leb (each (default_mode k)) 9) 17 tt k named)

  few_used : used (default_mode k) ≤ 9
  few_used = leb→le (used (default_mode k)) 9 (at (λ k. leb (used (default_mode k)) 9) 17 tt k named)

  number_value : (c i : ℕ) → c < 3 → i < 9 → number_of (default_numbers k) c i ≡ default_value k (c * each (default_mode k) + i)
  unfolding number_of
  number_value c i h g = get_d_tab 123 (default_value k) (c * each (default_mode k) + i) nan (room (c * each (default_mode k)) i (mul-le-mul {n₂ = 2} {m₂ = 9} (le_of_suc-le-suc h) few_each) g)
    where
      room : (a i : ℕ) → a ≤ 18 → i < 9 → a + i < 123
      room a i h g = omega arith

  numbers_fair : (c i : ℕ) → c < 3 → i < used (default_mode k) → Moderate (number_of (default_numbers k) c i)
  numbers_fair c i h g =
      subst Moderate (sym (number_value c i h (lt_of_lt_of_le g few_used)))
      (fair_banded (default_value k (c * each (default_mode k) + i))
      (at (λ i. fair_test (default_value k (c * each (default_mode k) + i))) (used (default_mode k))
      (at (λ c. below (λ i. fair_test (default_value k (c * each (default_mode k) + i))) (used (default_mode k))) 3 (at number_test 17 numbers_tested k named) c h) i g))

  divisors_fair : 3 ≤ default_mode k → default_mode k ≤ 4 → (c i : ℕ) → c < 3 → i < used (default_mode k) → Divisor (number_of (default_numbers k) c i)
  divisors_fair a b c i h g =
      subst Divisor (sym (number_value c i h (lt_of_lt_of_le g few_used)))
      (divisor_banded (default_value k (c * each (default_mode k) + i))
      (at (λ i. divisor_test (default_value k (c * each (default_mode k) + i))) (used (default_mode k))
      (at (λ c. below (λ i. divisor_test (default_value k (c * each (default_mode k) + i))) (used (default_mode k))) 3
      (or_right (divisors (default_mode k)) (divisors_test k) (at (λ k. not (divisors (default_mode k)) || divisors_test k) 17 divisors_tested k named)
      (ap (λ (t : Bool). t && leb (default_mode k) 4) (le-leb 3 (default_mode k) a) ∙ le-leb (default_mode k) 4 b)) c h) i g))

  own_values_lem : default_mode k ≡ 5 → (c : ℕ) → c < 3 → own_list (default_numbers k) c ≡ own_values k c
  own_values_lem e c h =
      ap (λ (x : Float). x ∷ number_of (default_numbers k) c 6 ∷ number_of (default_numbers k) c 7 ∷ number_of (default_numbers k) c 8 ∷ []) (value 5 (lit< tt))
      ∙ ap (λ (x : Float). default_value k (c * 9 + 5) ∷ x ∷ number_of (default_numbers k) c 7 ∷ number_of (default_numbers k) c 8 ∷ []) (value 6 (lit< tt))
      ∙ ap (λ (x : Float). default_value k (c * 9 + 5) ∷ default_value k (c * 9 + 6) ∷ x ∷ number_of (default_numbers k) c 8 ∷ []) (value 7 (lit< tt))
      ∙ ap (λ (x : Float). default_value k (c * 9 + 5) ∷ default_value k (c * 9 + 6) ∷ default_value k (c * 9 + 7) ∷ x ∷ []) (value 8 (lit< tt))
    where
      value : (i : ℕ) → i < 9 → number_of (default_numbers k) c i ≡ default_value k (c * 9 + i)
      value i g = number_value c i h g ∙ ap (λ (m : ℕ). default_value k (c * each m + i)) e

  own_fair : default_mode k ≡ 5 → (c i : ℕ) → c < 3 → i < 4 → Moderate (band_at (at_of (own_list (default_numbers k) c)) i)
  own_fair e c i h g =
      subst (λ (l : List Float). Moderate (band_at (at_of l) i)) (sym (own_values_lem e c h))
      (fair_banded (band_at (at_of (own_values k c)) i)
      (at (λ i. fair_test (band_at (at_of (own_values k c)) i)) 4
      (at (λ c. below (λ i. fair_test (band_at (at_of (own_values k c)) i)) 4) 3
      (or_right (eqb (default_mode k) 5) (own_test k) (at (λ k. not (eqb (default_mode k) 5) || own_test k) 17 own_tested k named) (eq-eqb (default_mode k) 5 e)) c h) i g))

  -- every default: bands and numbers from 2 ^ -24 to 2 ^ 40
  pub default_tame : Tame (default_numbers k)
  default_tame = record { bands = bands_fair; numbers = numbers_fair; divisors = divisors_fair; own = own_fair }

-- ---- one kind
default_numbers_lem : (row : List ℕ) (k : ℕ) → get_or row 0 0 ≡ 0 → numbers_of row k ≡ default_numbers k
unfolding numbers_of
default_numbers_lem row k e = ap (λ (m : ℕ). cond (eqb m 0) (default_numbers k) (read_numbers row)) e

-- a row of mode 0 has no denominator
not_raw : (row : List ℕ) → get_or row 0 0 ≡ 0 → odd_row row ≡ false
not_raw row e = plain_row row (λ z. omega (arith, e))

-- a row of mode 0: BAND and WEIGHT let every kind's default pass, whatever samples are lent
pub default_accepts : (k : ℕ) (row : List ℕ) (zs : List ℤ) → k < 17 → get_or row 0 0 ≡ 0 → reply_of (kind_answer row zs k) ≡ 0 ∷ []
default_accepts k row zs h e =
    tame_passes k row zs (subst (λ (n : Numbers). Shaped n k) (sym (default_numbers_lem row k e)) (default_shaped k h)) (subst Tame (sym (default_numbers_lem row k e)) (default_tame k h))

-- the default of every kind by itself, lent no samples and two outputs of its places, answers DONE
pub default_done : (k : ℕ) → k < 17 → reply_of (expand_answer k zero_row [] (places_of k) (places_of k)) ≡ 0 ∷ []
default_done k h =
    accepts k zero_row [] (places_of k) (places_of k) (sym (by_samples k zero_row 0 (places_of k) (places_of k) (places_of k) refl true (le_of_suc-le-suc h) refl refl refl (sym (always (eqb 0 (places_of k))))))
    (sym (allowed_entry k zero_row (le_of_suc-le-suc h) (zero_entry k h))) (not_raw zero_row refl) (default_accepts k zero_row [] h refl)
  where
    always : (b : Bool) → (b || true) ≡ true
    always true = refl
    always false = refl

-- ---- a set
-- a raw kind of a set whose denominator is above zero, and no sample of it times the denominator is refused
pub record RawFine (rows : List ℕ) (zs : List ℤ) (k : ℕ) : Type 0 where
  pub raw : mode_at rows k ≡ 7
  pub above : odd_denominator (get_or (row_at rows k) 3 0) ≡ false
  pub fine : (i : ℕ) → i < places_of k → refused (weight_of (half (get_or (row_at rows k) 3 0)) (get_or zs (start_of k + i) (pos 0))) ≡ false

-- a set that passes LENT and ROW is accepted where each kind is of mode 0 or such a raw one
pub mixed_set : (rows : List ℕ) (zs : List ℤ) (s t : ℕ) → set_lent rows (length zs) s t ≡ true → check_reply (check_rows rows) ≡ 0 ∷ [] → ((k : ℕ) → k < 17 → (mode_at rows k ≡ 0) ⊎ RawFine rows zs k)
    → reply_of (expand_set rows zs s t) ≡ 0 ∷ []
mixed_set rows zs s t lent ok f =
    set_accepts rows zs s t lent ok
    (λ k h. ⊎_elim (λ m. not_raw (row_at rows k) (mode_at_lem rows k ∙ m)) (λ r. raw_row_lem (row_at rows k) (mode_at_lem rows k ∙ r.raw) ∙ r.above) (f k h))
    (λ k h. ⊎_elim (λ m. default_accepts k (row_at rows k) (part k zs) h (mode_at_lem rows k ∙ m))
    (λ r. raw_kind_passes k (row_at rows k) (part k zs) (rows_fine rows (done_fault rows ok).1 k h) (mode_at_lem rows k ∙ r.raw)
    (λ i g. ap (λ (z : ℤ). refused (weight_of (half (get_or (row_at rows k) 3 0)) z)) (part_get k i zs (pos 0) g) ∙ r.fine i g)) (f k h))

-- so is any set of rows of mode 0, whatever samples it is lent
pub default_set : (rows : List ℕ) (zs : List ℤ) (s t : ℕ) → set_lent rows (length zs) s t ≡ true → check_reply (check_rows rows) ≡ 0 ∷ [] → ((k : ℕ) → k < 17 → mode_at rows k ≡ 0)
    → reply_of (expand_set rows zs s t) ≡ 0 ∷ []
default_set rows zs s t lent ok f = mixed_set rows zs s t lent ok (λ k h. inl (f k h))

-- lent no samples and two arenas
bare_set : (rows : List ℕ) → check_reply (check_rows rows) ≡ 0 ∷ [] → ((k : ℕ) → k < 17 → mode_at rows k ≡ 0) → reply_of (expand_set rows [] 394752 394752) ≡ 0 ∷ []
bare_set rows ok f =
    default_set rows [] 394752 394752 (sym (set-by-samples rows 0 394752 394752 true (done_fault rows ok).0 refl refl (bare_lent rows (λ k h e. omega (arith, f k h))))) ok f

-- 17 rows of zeros, as 17 entries of mode 0 write them, answer DONE
pub zero_set_done : reply_of (expand_set (replicate 2176 0) [] 394752 394752) ≡ 0 ∷ []
zero_set_done = bare_set (replicate 2176 0) (headed_passes zero_row zero_row refl refl (zero_entry 0 (lit< tt)) (λ k h. zero_entry (suc k) h)) modes
  where
    modes : (k : ℕ) → k < 17 → mode_at (replicate 2176 0) k ≡ 0
    modes k h = get_or-replicate 2176 (k * 128) 0 0 (omega arith)

-- and so do the rows that the flag of an all-default set writes: slot 126 of row 0 is 1, all else 0
pub flag_set_done : reply_of (expand_set all_default [] 394752 394752) ≡ 0 ∷ []
flag_set_done = bare_set all_default default_passes modes
  where
    modes : (k : ℕ) → k < 17 → mode_at all_default k ≡ 0
    modes k h = get_or-set_other {A = ℕ} (replicate 2176 0) 126 (k * 128) 1 0 (λ e. omega arith) ∙ get_or-replicate 2176 (k * 128) 0 0 (omega arith)
