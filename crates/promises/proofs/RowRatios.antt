-- That every b/a is normal, as document 01 says, of rows: read ones, with the numbers scaled as they are when read, and defaults; where p5 is zero it is 0/0. Assumes nothing.
use mathlib.Core.Path.{◌≡◌, refl, sym, ap, ◌∙◌, subst}
use mathlib.Core.Logic.{◌⊎◌, inl, inr, ⊎_elim}
use mathlib.Core.Bool.{Bool, true, false, cond, true≢false}
use mathlib.Core.List.{List, [], ◌∷◌}
use Prim.Native.Nat.{ℕ, zero, suc, ◌+◌, ◌-◌, ◌*◌, ◌^◌, ◌≤◌, ◌<◌}
use native.Mathlib.Omega.{arith}
use borrow.Author.Tests.{eqb-true, eqb-false, ne_eqb}
use lib.Dec.{T, leb, eqb, lit≤}
use lib.ListN.{get_or}
use lib.Ieee.{Float, nan, inf, fin, binary32, mul, div}
use lib.Ieee.Exact.{HasValue}
use lib.Ieee.Fits.{div-fits}
use lib.Ieee.Positive.{positive}
use Rattle.params.specs.Row.{lists}
use Rattle.params.specs.Allowed.{count_ok, row_allowed}
use Rattle.bands.specs.Close.{Accurate}
use Rattle.bands.specs.Power.{normal, P}
use Rattle.bands.specs.Bands.{at_of, band_at, sound}
use Rattle.bands.specs.Distance.{distance_of}
use Rattle.bands.specs.Position.{position_of, index_of, Cut}
use Rattle.bands.specs.Weights.{segment_weight, between, band_weight}
use Rattle.bands.specs.Quant.{gridded, sound_of}
use Rattle.bands.specs.Freqs.{freq_position, freq_weight}
use Rattle.bands.specs.Freqs.{interpolated as interpolates}
use Rattle.bands.proofs.Freqs.{freq_cut, on_small, weight_is}
use Rattle.bands.proofs.Asserts.{place_cut}
use Rattle.bands.proofs.LentLaws.{grid_sides}
use Rattle.promises.proofs.Steps.{steps_is}
use Rattle.bands.proofs.Accuracy.{accurate}
use Rattle.bands.proofs.Formed.{Given, ratio_at, is_zero, ratio_formed, own_formed, zero_ratio, formed_accurate}
use Rattle.promises.proofs.ByNumber.{done_only}
use Rattle.matrix.specs.Expanded.{reply_of, is_done, band_answer}
use Rattle.matrix.specs.declared.numbers.Numbers.{Numbers}
use Rattle.matrix.specs.Numbers.{read_numbers, numbers_of, number_of, count, list_of}
use Rattle.matrix.proofs.RowFacts.{facts, raw_numbers, row_shaped}
use Rattle.matrix.proofs.Answered.{all_sound, all_sound_2}
use Rattle.promises.proofs.RowNumbers.{list_number, own_list, named, list_given, own_given}

-- of the n bands of ps, z is a x P(b / a, f / 2 ^ 32), with a and b the bands i and i + 1 where the position p is i + f / 2 ^ 32; b / a is normal, and P of it above zero and accurate
pub record Interpolated (ps : ℕ → Float) (n : ℕ) (p z : Float) : Type 0 where
  pub i : ℕ
  pub f : ℕ
  pub inside : i + 1 < n
  pub small : f < 2 ^ 32
  pub position : HasValue p false (i * 2 ^ 32 + f) (2 ^ 32)
  pub weight : z ≡ mul binary32 (band_at ps i) (P (ratio_at ps i) f)
  pub ratio : T (normal (ratio_at ps i))
  pub power : Accurate (ratio_at ps i) f

cut_weight : (bs : ℕ → Float) (n : ℕ) (p : Float) (c : Cut n p) → between bs p ≡ mul binary32 (bs (index_of p)) (P (div binary32 (bs (index_of p + 1)) (bs (index_of p))) c.n)
unfolding between segment_weight
cut_weight bs n p c = ap (λ (k : ℕ). mul binary32 (bs (index_of p)) (P (div binary32 (bs (index_of p + 1)) (bs (index_of p))) k)) (steps_is p n c)

many_weight : (bs : ℕ → Float) (n w h y x : ℕ) → 2 ≤ n → band_weight bs n w h y x ≡ between bs (position_of (distance_of x y (w - 1) (h - 1)) n)
unfolding band_weight
many_weight bs n w h y x many = ap (λ (b : Bool). cond b (bs 0) (between bs (position_of (distance_of x y (w - 1) (h - 1)) n))) (ne_eqb n 1 (λ e. omega arith))

interpolated : (ps : ℕ → Float) (n w h y x : ℕ) → Given ps n → sound ps n ≡ n → 2 ≤ n → n ≤ 16 → 2 ≤ w → w ≤ 256 → 2 ≤ h → h ≤ 256 → y < h → x < w → Interpolated ps n (position_of (distance_of x y (w - 1) (h - 1)) n) (band_weight (band_at ps) n w h y x)
interpolated ps n w h y x g s many few wide not_wider high not_higher row column =
    let p = position_of (distance_of x y (w - 1) (h - 1)) n in
    let c = place_cut n w h y x many few wide not_wider high not_higher row column in
    record {
      i = index_of p;
      f = c.n;
      inside = c.inside;
      small = c.small;
      position = c.position;
      weight = many_weight (band_at ps) n w h y x many ∙ cut_weight (band_at ps) n p c;
      ratio = ratio_formed ps n g s (index_of p) c.inside;
      power = formed_accurate ps n g s (index_of p) c.n c.inside c.small;
    }

module _ (k : ℕ) (row : List ℕ) (ok : row_allowed k row ≡ true) where
  -- ---- a list whose bands are not refused
  module _ (l c : ℕ) (channel : c < 3) (s : sound_of (list_of (numbers_of row k) l) (count (numbers_of row k) l) c ≡ count (numbers_of row k) l) (i : ℕ) (h : i + 1 < count (numbers_of row k) l) where
    -- the ratio of band i + 1 to band i is normal and above zero
    pub row_ratio : T (normal (ratio_at (list_number (numbers_of row k) l c) i))
    row_ratio = ratio_formed (list_number (numbers_of row k) l c) (count (numbers_of row k) l) (list_given k row ok l c channel (omega arith)) s i h

    -- and the power P of it at f / 2 ^ 32 is above zero, and within one part in 1,000,000 of the true one
    pub row_accurate : (f : ℕ) → f < 2 ^ 32 → Accurate (ratio_at (list_number (numbers_of row k) l c) i) f
    row_accurate f g = formed_accurate (list_number (numbers_of row k) l c) (count (numbers_of row k) l) (list_given k row ok l c channel (omega arith)) s i f h g

  -- ---- the same where the kind's answer is not BAND
  band_sound : reply_of (band_answer (numbers_of row k) k 3) ≡ 0 ∷ [] → (l c : ℕ) → c < 3 → sound_of (list_of (numbers_of row k) l) (count (numbers_of row k) l) c ≡ count (numbers_of row k) l
  unfolding list_of
  band_sound e zero c h = (all_sound (numbers_of row k) k (band_answer (numbers_of row k) k 3) refl (ap is_done (done_only (band_answer (numbers_of row k) k 3) e))).each c h
  band_sound e (suc l) c h = (all_sound_2 (numbers_of row k) k (band_answer (numbers_of row k) k 3) refl (ap is_done (done_only (band_answer (numbers_of row k) k 3) e))).each c h

  few_bands : (l : ℕ) → count (numbers_of row k) l ≤ 16
  few_bands l = ⊎_elim raw plain (decide (get_or row 0 0))
    where
      decide : (m : ℕ) → (m ≡ 7) ⊎ (m ≡ 7 → ⊥)
      decide m = go (eqb m 7) refl
        where
          go : (b : Bool) → eqb m 7 ≡ b → (m ≡ 7) ⊎ (m ≡ 7 → ⊥)
          go true e = inl (eqb-true m 7 e)
          go false e = inr (eqb-false m 7 e)

      few : (l : ℕ) (n : Numbers) → n.first ≤ 16 → n.second ≤ 16 → count n l ≤ 16
      few zero n a b = a
      few (suc l) n a b = b

      plain : (get_or row 0 0 ≡ 7 → ⊥) → count (numbers_of row k) l ≤ 16
      plain n7 = let s = row_shaped k row (named k row ok) (facts k row ok) n7 in few l (numbers_of row k) s.few.first s.few.second

      none : (b : Bool) (c : ℕ) → b ≡ false → count_ok b c ≡ true → c ≤ 16
      none true c z e = absurd (true≢false z)
      none false c z e = subst (λ (x : ℕ). x ≤ 16) (sym (eqb-true c 0 e)) (lit≤ tt)

      raw : get_or row 0 0 ≡ 7 → count (numbers_of row k) l ≤ 16
      raw m =
          let f = facts k row ok in
          subst (λ (n : Numbers). count n l ≤ 16) (sym (raw_numbers row k m))
          (few l (read_numbers row) (none (leb 1 (lists (get_or row 0 0))) (get_or row 1 0) (ap (λ (x : ℕ). leb 1 (lists x)) m) f.first) (none (leb 2 (lists (get_or row 0 0))) (get_or row 2 0) (ap (λ (x : ℕ). leb 2 (lists x)) m) f.second))

  module _ (e : reply_of (band_answer (numbers_of row k) k 3) ≡ 0 ∷ []) (l c : ℕ) (channel : c < 3) (i : ℕ) (h : i + 1 < count (numbers_of row k) l) where
    -- a row that passes ROW and BAND: every ratio of both lists and of every channel is normal and above zero
    pub ratio_normal : T (normal (ratio_at (list_number (numbers_of row k) l c) i))
    ratio_normal = row_ratio l c channel (band_sound e l c channel) i h

    -- and the power of it as accurate as said
    pub ratio_accurate : (f : ℕ) → f < 2 ^ 32 → Accurate (ratio_at (list_number (numbers_of row k) l c) i) f
    ratio_accurate = row_accurate l c channel (band_sound e l c channel) i h

  -- a row that passes ROW and BAND, a list of two bands or more of it: so is every weight of every grid that lists are laid over
  pub weight_interpolated : reply_of (band_answer (numbers_of row k) k 3) ≡ 0 ∷ [] → (l c w h y x : ℕ) → c < 3 → gridded w h ≡ true → 2 ≤ count (numbers_of row k) l → y < h → x < w
      → Interpolated (list_number (numbers_of row k) l c) (count (numbers_of row k) l) (position_of (distance_of x y (w - 1) (h - 1)) (count (numbers_of row k) l)) (band_weight (band_at (list_number (numbers_of row k) l c)) (count (numbers_of row k) l) w h y x)
  weight_interpolated e l c w h y x channel g many hy hx =
      let s = grid_sides w h g in
      interpolated (list_number (numbers_of row k) l c) (count (numbers_of row k) l) w h y x (list_given k row ok l c channel (omega arith)) (band_sound e l c channel) many (few_bands l)
      s.wide s.not_wider s.high s.not_higher hy hx

  -- ---- mode 5's own four bands, p5 and p6 to p8
  module _ (mode : (numbers_of row k).mode ≡ 5) (c : ℕ) (channel : c < 3) (i : ℕ) (h : i < 3) where
    own : T (normal (ratio_at (at_of (own_list (numbers_of row k) c)) i)) ⊎ (T (is_zero (number_of (numbers_of row k) c 5)) × (ratio_at (at_of (own_list (numbers_of row k) c)) i ≡ nan))
    own = own_formed (at_of (own_list (numbers_of row k) c)) (own_given k row ok c mode channel) i h

    -- where p5 is not zero, above zero or below, the ratio is normal and above zero
    pub own_normal : is_zero (number_of (numbers_of row k) c 5) ≡ false → T (normal (ratio_at (at_of (own_list (numbers_of row k) c)) i))
    own_normal z = go own
      where
        go : T (normal (ratio_at (at_of (own_list (numbers_of row k) c)) i)) ⊎ (T (is_zero (number_of (numbers_of row k) c 5)) × (ratio_at (at_of (own_list (numbers_of row k) c)) i ≡ nan)) → T (normal (ratio_at (at_of (own_list (numbers_of row k) c)) i))
        go (inl n) = n
        go (inr p) = absurd (subst T z p.0)

    -- and the power of it as accurate as said
    pub own_accurate : is_zero (number_of (numbers_of row k) c 5) ≡ false → (f : ℕ) → f < 2 ^ 32 → Accurate (ratio_at (at_of (own_list (numbers_of row k) c)) i) f
    own_accurate z f g =
        accurate (ratio_at (at_of (own_list (numbers_of row k) c)) i) f (div-fits binary32 (band_at (at_of (own_list (numbers_of row k) c)) (i + 1)) (band_at (at_of (own_list (numbers_of row k) c)) i)) (own_normal z) g

    above_not_zero : (x : Float) → T (positive x) → is_zero x ≡ false
    above_not_zero nan p = refl
    above_not_zero (inf s) p = refl
    above_not_zero (fin true m e) p = absurd p
    above_not_zero (fin false zero e) p = absurd p
    above_not_zero (fin false (suc m) e) p = refl

    -- so it is where p5 is above zero
    pub own_above : T (positive (number_of (numbers_of row k) c 5)) → T (normal (ratio_at (at_of (own_list (numbers_of row k) c)) i))
    own_above p = own_normal (above_not_zero (number_of (numbers_of row k) c 5) p)

    -- where p5 is zero, the ratio is 0 / 0: a NaN
    pub own_nan : T (is_zero (number_of (numbers_of row k) c 5)) → ratio_at (at_of (own_list (numbers_of row k) c)) i ≡ nan
    own_nan z = zero_ratio (at_of (own_list (numbers_of row k) c)) (own_given k row ok c mode channel) z i h

  -- so every number that mode 5 interpolates over FREQS is such a one, where p5 is not zero
  pub own_interpolated : (numbers_of row k).mode ≡ 5 → (c p : ℕ) → c < 3 → interpolates p ≡ true → is_zero (number_of (numbers_of row k) c 5) ≡ false
      → Interpolated (at_of (own_list (numbers_of row k) c)) 4 (freq_position p) (freq_weight (own_list (numbers_of row k) c) p)
  own_interpolated m c p channel on z =
      let ps = at_of (own_list (numbers_of row k) c) in
      let q = freq_position p in
      let cut = freq_cut p (on_small p on) on in
      record {
        i = index_of q;
        f = cut.n;
        inside = cut.inside;
        small = cut.small;
        position = cut.position;
        weight = sym (weight_is (own_list (numbers_of row k) c) p on) ∙ cut_weight (band_at ps) 4 q cut;
        ratio = own_normal m c channel (index_of q) (three (index_of q) cut.inside) z;
        power = own_accurate m c channel (index_of q) (three (index_of q) cut.inside) z cut.n cut.small;
      }
    where
      three : (i : ℕ) → i + 1 < 4 → i < 3
      three i h = omega arith
