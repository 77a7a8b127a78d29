-- The numbers of a row that passes the ROW check, read or by default, are numbers as the theorems on bands ask: what `Given` and `Own` say of them. Assumes nothing.
use mathlib.Core.Path.{◌≡◌, refl, sym, ap, ◌∙◌, subst}
use mathlib.Core.Bool.{Bool, true, false, cond, not, ◌&&◌, ◌||◌, true≢false}
use mathlib.Core.List.{List, [], ◌∷◌}
use Prim.Native.Nat.{ℕ, zero, suc, ◌+◌, ◌*◌, ◌%◌, ◌≤◌, ◌<◌}
use native.Mathlib.Nat.{le_trans, le_of_suc-le-suc, not-suc-le-zero, mul-le-mul_right, mul-add-mod_self_right, mod-eq_of_lt}
use native.Mathlib.Omega.{arith}
use borrow.Author.Tests.{eqb-true, ne_eqb, leb-true}
use lib.Dec.{T, leb, ltb, eqb, leb→le, lit<}
use lib.ListN.{get_or, drop}
use lib.Seq.{get_or-take, get_or-drop}
use lib.Ieee.{Float, nan, binary32, fits, mul}
use lib.Ieee.Fits.{and_l, and_r, and_i}
use lib.Ieee.Scale.{finite}
use Rattle.transform.proofs.Laws.{below, at}
use Rattle.bitstream.specs.Half.{half}
use Rattle.bitstream.specs.Half as halves
use Rattle.params.specs.Row.{lists}
use Rattle.params.specs.Allowed.{count_ok, row_allowed}
use Rattle.params.proofs.FineLaws.{row_fine}
use Rattle.bands.specs.Bands.{at_of}
use Rattle.bands.specs.Quant.{channel_of}
use Rattle.bands.proofs.TableLaws.{get_d_tab}
use Rattle.bands.proofs.MultRange.{mild}
use Rattle.bands.proofs.Formed.{Given, Own, starts}
use Rattle.bands.proofs.Halves.{half_held, half_mild, first64, first_held, first_finite, first_starts}
use Rattle.matrix.specs.declared.numbers.Numbers.{Numbers}
use Rattle.matrix.specs.Defaults.{default_mode, default_first, default_second}
use Rattle.matrix.specs.Numbers.{each, read_numbers, default_numbers, default_value, numbers_of, number_of, count, begins, opening, times64, band_number, list_of}
use Rattle.transform.proofs.Chain.{left, right}
use Rattle.matrix.proofs.RowFacts.{facts}

-- ---- they all stand among the 123 values
abbrev most : ℕ → ℕ → ℕ
most n m = cond (leb n (lists m)) 16 0

pub count_most : (b : Bool) (c : ℕ) → count_ok b c ≡ true → c ≤ cond b 16 0
count_most true c e = leb-true c 16 (right (leb 1 c) (leb c 16) e)
count_most false c e = let z = eqb-true c 0 e in omega arith

within_123 : (m c d : ℕ) → m < 8 → count_ok (leb 1 (lists m)) c ≡ true → count_ok (leb 2 (lists m)) d ≡ true → 3 * each m + 3 * c + 3 * d ≤ 123
within_123 m c d h e f =
    room (each m) c d (most 1 m) (most 2 m) (count_most (leb 1 (lists m)) c e) (count_most (leb 2 (lists m)) d f)
    (leb→le (3 * each m + 3 * most 1 m + 3 * most 2 m) 123 (at (λ m. leb (3 * each m + 3 * most 1 m + 3 * most 2 m) 123) 8 tt m h))
  where
    room : (x c d a b : ℕ) → c ≤ a → d ≤ b → 3 * x + 3 * a + 3 * b ≤ 123 → 3 * x + 3 * c + 3 * d ≤ 123
    room x c d a b p q r = omega arith

-- number j of list l is one of them
pub place : (n : Numbers) (l j : ℕ) → 3 * each n.mode + 3 * n.first + 3 * n.second ≤ 123 → j < 3 * count n l → begins n l + j < 123
place n zero j h g = room (each n.mode) n.first n.second j h g
  where
    room : (x c d j : ℕ) → 3 * x + 3 * c + 3 * d ≤ 123 → j < 3 * c → 3 * x + j < 123
    room x c d j h g = omega arith
place n (suc l) j h g = room (each n.mode) n.first n.second j h g
  where
    room : (x c d j : ℕ) → 3 * x + 3 * c + 3 * d ≤ 123 → j < 3 * d → 3 * x + 3 * c + j < 123
    room x c d j h g = omega arith

-- ---- the numbers of list l of channel c, one by one
abbrev pub list_number : Numbers → ℕ → ℕ → ℕ → Float
list_number n l c = at_of (channel_of (list_of n l) (count n l) c)

-- place i of channel c, of m each
pub inside : (c i m : ℕ) → c < 3 → i < m → c * m + i < 3 * m
inside c i m h g = le_trans (lower (c * m) i m g) (top c m h)
  where
    lower : (a i m : ℕ) → i < m → a + i < a + m
    lower a i m g = omega arith

    top : (c m : ℕ) → c < 3 → c * m + m ≤ 3 * m
    top c m h = omega (arith, mul-le-mul_right m (le_of_suc-le-suc h))

-- it is number c x count + i of the whole list
pub at_place : (n : Numbers) (l c i : ℕ) → c < 3 → i < count n l → list_number n l c i ≡ band_number n l (c * count n l + i)
unfolding list_of
at_place n l c i h g =
    get_or-take (count n l) (drop (c * count n l) (list_of n l)) i nan g
    ∙ get_or-drop (c * count n l) (list_of n l) i nan
    ∙ get_d_tab (3 * count n l) (band_number n l) (c * count n l + i) nan (inside c i (count n l) h g)

-- what is asked of number i of a list: an f32; the first finite, the others at most 65504 either way
abbrev pub meets : ℕ → Float → Bool
meets zero x = fits binary32 x && finite x
meets (suc i) x = fits binary32 x && mild x

given_of : (ps : ℕ → Float) (n : ℕ) → 0 < n → ((i : ℕ) → i < n → T (meets i (ps i))) → Given ps n
given_of ps n h f = record { held = held; first = and_r (fits binary32 (ps 0)) (finite (ps 0)) (f 0 h); later = later }
  where
    held : (i : ℕ) → i < n → T (fits binary32 (ps i))
    held zero g = and_l (fits binary32 (ps 0)) (finite (ps 0)) (f 0 g)
    held (suc i) g = and_l (fits binary32 (ps (suc i))) (mild (ps (suc i))) (f (suc i) g)

    later : (i : ℕ) → 1 ≤ i → i < n → T (mild (ps i))
    later zero z g = absurd (not-suc-le-zero z)
    later (suc i) z g = and_r (fits binary32 (ps (suc i))) (mild (ps (suc i))) (f (suc i) g)

-- ---- read
first_meets : (h : ℕ) → halves.barred h ≡ false → T (meets 0 (first64 h))
first_meets h e = and_i (fits binary32 (first64 h)) (finite (first64 h)) (first_held h) (first_finite h e)

next_meets : (i h : ℕ) → halves.barred h ≡ false → T (meets (suc i) (half h))
next_meets i h e = and_i (fits binary32 (half h)) (mild (half h)) (half_held h) (half_mild h e)

half_meets : (i j m h : ℕ) → j % m ≡ i → halves.barred h ≡ false → T (meets i (times64 (opening true (j % m)) (half h)))
unfolding mul
half_meets zero j m h e f = subst (λ (x : ℕ). T (meets 0 (times64 (eqb x 0) (half h)))) (sym e) (first_meets h f)
half_meets (suc i) j m h e f = subst (λ (b : Bool). T (meets (suc i) (times64 b (half h)))) (sym (ne_eqb (j % m) 0 (λ z. not_zero i (sym e ∙ z)))) (next_meets i h f)
  where
    not_zero : (i : ℕ) → suc i ≡ 0 → ⊥
    not_zero i z = omega arith

module _ (row : List ℕ) (fine : (i : ℕ) → halves.barred (get_or row (3 + i) 0) ≡ false) (room : 3 * each (get_or row 0 0) + 3 * get_or row 1 0 + 3 * get_or row 2 0 ≤ 123) where
  abbrev half_at : ℕ → Float
  half_at i = half (get_or row (3 + i) 0)

  read_meets : (l c i : ℕ) → c < 3 → i < count (read_numbers row) l → T (meets i (band_number (read_numbers row) l (c * count (read_numbers row) l + i)))
  unfolding band_number
  read_meets l c i h g =
      let m = count (read_numbers row) l in
      let j = c * count (read_numbers row) l + i in
      subst (λ (x : Float). T (meets i (times64 (opening true ((c * count (read_numbers row) l + i) % count (read_numbers row) l)) x)))
      (sym (get_d_tab 123 half_at (begins (read_numbers row) l + j) nan (place (read_numbers row) l j room (inside c i m h g))))
      (half_meets i j m (get_or row (3 + (begins (read_numbers row) l + j)) 0) (mul-add-mod_self_right c m i ∙ mod-eq_of_lt g) (fine (begins (read_numbers row) l + j)))

  -- mode 5's own p5 to p8
  own_room : (c i : ℕ) → get_or row 0 0 ≡ 5 → c < 3 → i < 9 → c * each (get_or row 0 0) + i < 123
  own_room c i e h g = subst (λ (m : ℕ). c * each m + i < 123) (sym e) (omega arith)

  read_number : (c i : ℕ) → get_or row 0 0 ≡ 5 → c < 3 → i < 9 → number_of (read_numbers row) c i ≡ times64 (ltb i 6) (half_at (c * 9 + i))
  unfolding number_of
  read_number c i e h g =
      ap (λ (x : Float). times64 (eqb (get_or row 0 0) 5 && ltb i 6) x) (get_d_tab 123 half_at (c * each (get_or row 0 0) + i) nan (own_room c i e h g))
      ∙ ap (λ (m : ℕ). times64 (eqb m 5 && ltb i 6) (half_at (c * each m + i))) e

-- what is asked of mode 5's own: an f32; p5 zero or from 2 ^ -24 to 2 ^ 24 in size, the others at most 65504 either way
abbrev pub owns : ℕ → Float → Bool
owns zero x = fits binary32 x && starts x
owns (suc i) x = fits binary32 x && mild x

abbrev pub own_list : Numbers → ℕ → List Float
own_list n c = number_of n c 5 ∷ number_of n c 6 ∷ number_of n c 7 ∷ number_of n c 8 ∷ []

own_of : (n : Numbers) (c : ℕ) → ((i : ℕ) → i < 4 → T (owns i (number_of n c (5 + i)))) → Own (at_of (own_list n c))
own_of n c f = record {
  held = λ i h. each4 (λ i. T (fits binary32 (at_of (own_list n c) i))) (and_l (fits binary32 (number_of n c 5)) (starts (number_of n c 5)) (f 0 (lit< tt))) (and_l (fits binary32 (number_of n c 6)) (mild (number_of n c 6)) (f 1 (lit< tt))) (and_l (fits binary32 (number_of n c 7)) (mild (number_of n c 7)) (f 2 (lit< tt))) (and_l (fits binary32 (number_of n c 8)) (mild (number_of n c 8)) (f 3 (lit< tt))) i h;
  first = and_r (fits binary32 (number_of n c 5)) (starts (number_of n c 5)) (f 0 (lit< tt));
  later = λ i z h. each4 (λ i. 1 ≤ i → T (mild (at_of (own_list n c) i))) (λ y. absurd (not-suc-le-zero y)) (λ y. and_r (fits binary32 (number_of n c 6)) (mild (number_of n c 6)) (f 1 (lit< tt))) (λ y. and_r (fits binary32 (number_of n c 7)) (mild (number_of n c 7)) (f 2 (lit< tt))) (λ y. and_r (fits binary32 (number_of n c 8)) (mild (number_of n c 8)) (f 3 (lit< tt))) i h z;
}
  where
    each4 : (P : ℕ → Type 0) → P 0 → P 1 → P 2 → P 3 → (i : ℕ) → i < 4 → P i
    each4 P a b c d zero h = a
    each4 P a b c d (suc zero) h = b
    each4 P a b c d (suc (suc zero)) h = c
    each4 P a b c d (suc (suc (suc zero))) h = d
    each4 P a b c d (suc (suc (suc (suc i)))) h = absurd (not-suc-le-zero (le_of_suc-le-suc (le_of_suc-le-suc (le_of_suc-le-suc (le_of_suc-le-suc h)))))

-- read
own_half : (i h : ℕ) → halves.barred h ≡ false → T (owns i (times64 (ltb (5 + i) 6) (half h)))
unfolding mul
own_half zero h e = and_i (fits binary32 (first64 h)) (starts (first64 h)) (first_held h) (first_starts h e)
own_half (suc i) h e = subst (λ (b : Bool). T (owns (suc i) (times64 b (half h)))) (sym (borrow.Author.Tests.le-ltb (5 + suc i) 6 (omega arith))) (and_i (fits binary32 (half h)) (mild (half h)) (half_held h) (half_mild h e))

read_own : (row : List ℕ) → ((i : ℕ) → halves.barred (get_or row (3 + i) 0) ≡ false) → 3 * each (get_or row 0 0) + 3 * get_or row 1 0 + 3 * get_or row 2 0 ≤ 123 → get_or row 0 0 ≡ 5
    → (c : ℕ) → c < 3 → (i : ℕ) → i < 4 → T (owns i (number_of (read_numbers row) c (5 + i)))
read_own row fine room e c h i g =
    subst (λ (x : Float). T (owns i x)) (sym (read_number row fine room c (5 + i) e h (omega arith))) (own_half i (get_or row (3 + (c * 9 + (5 + i))) 0) (fine (c * 9 + (5 + i))))

-- ---- by default: one computed test over the table of defaults
-- no default has more than 123 numbers
pub defaults_room : (k : ℕ) → k < 17 → 3 * each (default_mode k) + 3 * default_first k + 3 * default_second k ≤ 123
defaults_room k h = leb→le (3 * each (default_mode k) + 3 * default_first k + 3 * default_second k) 123 (at (λ k. leb (3 * each (default_mode k) + 3 * default_first k + 3 * default_second k) 123) 17 tt k h)

abbrev list_test : ℕ → ℕ → Bool
list_test k l = below (λ c. below (λ i. meets i (default_value k (begins (default_numbers k) l + (c * count (default_numbers k) l + i)))) (count (default_numbers k) l)) 3

defaults_test : T (below (λ k. list_test k 0 && list_test k 1) 17)
unfolding default_value fits
defaults_test = tt

default_list : (k l : ℕ) → k < 17 → T (list_test k l)
default_list k zero h = and_l (list_test k 0) (list_test k 1) (at (λ k. list_test k 0 && list_test k 1) 17 defaults_test k h)
default_list k (suc l) h = and_r (list_test k 0) (list_test k 1) (at (λ k. list_test k 0 && list_test k 1) 17 defaults_test k h)

default_meets : (k l c i : ℕ) → k < 17 → c < 3 → i < count (default_numbers k) l → T (meets i (band_number (default_numbers k) l (c * count (default_numbers k) l + i)))
unfolding band_number
default_meets k l c i z h g =
    let m = count (default_numbers k) l in
    let j = c * count (default_numbers k) l + i in
    subst (λ (x : Float). T (meets i x))
    (sym (get_d_tab 123 (default_value k) (begins (default_numbers k) l + j) nan (place (default_numbers k) l j (defaults_room k z) (inside c i m h g))))
    (at (λ i. meets i (default_value k (begins (default_numbers k) l + (c * count (default_numbers k) l + i)))) (count (default_numbers k) l)
    (at (λ c. below (λ i. meets i (default_value k (begins (default_numbers k) l + (c * count (default_numbers k) l + i)))) (count (default_numbers k) l)) 3 (default_list k l z) c h) i g)

abbrev own_test : ℕ → Bool
own_test k = below (λ c. below (λ i. owns i (default_value k (c * 9 + (5 + i)))) 4) 3

own_test_lem : T (below (λ k. not (eqb (default_mode k) 5) || own_test k) 17)
unfolding default_value fits
own_test_lem = tt

or_right : (a b : Bool) → T (not a || b) → a ≡ true → T b
or_right true b t e = t
or_right false b t e = absurd (true≢false (sym e))

default_own : (k c i : ℕ) → k < 17 → default_mode k ≡ 5 → c < 3 → i < 4 → T (owns i (number_of (default_numbers k) c (5 + i)))
unfolding number_of
default_own k c i z e h g =
    subst (λ (x : Float). T (owns i x))
    (sym (get_d_tab 123 (default_value k) (c * each (default_mode k) + (5 + i)) nan (subst (λ (m : ℕ). c * each m + (5 + i) < 123) (sym e) (omega arith)) ∙ ap (λ (m : ℕ). default_value k (c * each m + (5 + i))) e))
    (at (λ i. owns i (default_value k (c * 9 + (5 + i)))) 4
    (at (λ c. below (λ i. owns i (default_value k (c * 9 + (5 + i)))) 4) 3
    (or_right (eqb (default_mode k) 5) (own_test k) (at (λ k. not (eqb (default_mode k) 5) || own_test k) 17 own_test_lem k z) (borrow.Author.Tests.eq-eqb (default_mode k) 5 e)) c h) i g)

-- ---- either: a row that passes the ROW check
-- its kind is one of the 17
pub named : (k : ℕ) (row : List ℕ) → row_allowed k row ≡ true → k < 17
unfolding row_allowed
named k row e = borrow.Author.Tests.ltb-true k 17 (left (ltb k 17) _ e)

module _ (k : ℕ) (row : List ℕ) (ok : row_allowed k row ≡ true) where
  room : 3 * each (get_or row 0 0) + 3 * get_or row 1 0 + 3 * get_or row 2 0 ≤ 123
  room = let f = facts k row ok in within_123 (get_or row 0 0) (get_or row 1 0) (get_or row 2 0) f.small f.first f.second

  is : numbers_of row k ≡ cond (eqb (get_or row 0 0) 0) (default_numbers k) (read_numbers row)
  unfolding numbers_of
  is = refl

  list_meets : (l c i : ℕ) → c < 3 → i < count (numbers_of row k) l → T (meets i (list_number (numbers_of row k) l c i))
  list_meets l c i h g = subst (λ (x : Float). T (meets i x)) (sym (at_place (numbers_of row k) l c i h g)) (go (eqb (get_or row 0 0) 0) refl (numbers_of row k) is g)
    where
      go : (b : Bool) → eqb (get_or row 0 0) 0 ≡ b → (n : Numbers) → n ≡ cond b (default_numbers k) (read_numbers row) → i < count n l → T (meets i (band_number n l (c * count n l + i)))
      go true e n p g = subst (λ (n : Numbers). i < count n l → T (meets i (band_number n l (c * count n l + i)))) (sym p) (default_meets k l c i (named k row ok) h) g
      go false e n p g = subst (λ (n : Numbers). i < count n l → T (meets i (band_number n l (c * count n l + i)))) (sym p) (read_meets row (row_fine k row ok) room l c i h) g

  -- every list of every channel meets what the theorems on bands ask of its numbers
  pub list_given : (l c : ℕ) → c < 3 → 0 < count (numbers_of row k) l → Given (list_number (numbers_of row k) l c) (count (numbers_of row k) l)
  list_given l c h z = given_of (list_number (numbers_of row k) l c) (count (numbers_of row k) l) z (λ i g. list_meets l c i h g)

  -- and so do mode 5's own four numbers
  pub own_given : (c : ℕ) → (numbers_of row k).mode ≡ 5 → c < 3 → Own (at_of (own_list (numbers_of row k) c))
  own_given c m h = own_of (numbers_of row k) c (λ i g. go (eqb (get_or row 0 0) 0) refl (numbers_of row k) is m i g)
    where
      go : (b : Bool) → eqb (get_or row 0 0) 0 ≡ b → (n : Numbers) → n ≡ cond b (default_numbers k) (read_numbers row) → n.mode ≡ 5 → (i : ℕ) → i < 4 → T (owns i (number_of n c (5 + i)))
      go true e n p q i g = subst (λ (n : Numbers). n.mode ≡ 5 → T (owns i (number_of n c (5 + i)))) (sym p) (λ q. default_own k c i (named k row ok) q h g) q
      go false e n p q i g = subst (λ (n : Numbers). n.mode ≡ 5 → T (owns i (number_of n c (5 + i)))) (sym p) (λ q. read_own row (row_fine k row ok) room q c h i g) q
