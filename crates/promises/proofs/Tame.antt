-- Numbers whose bands and own numbers lie from 2 ^ -24 to 2 ^ 40 are accepted: no band is refused, and no weight is. Assumes nothing.
use mathlib.Core.Path.{◌≡◌, refl, sym, ap, ◌∙◌, subst}
use mathlib.Core.Bool.{Bool, true, false, cond, not, ◌&&◌, ◌||◌}
use mathlib.Core.List.{List, [], ◌∷◌}
use Prim.Native.Nat.{ℕ, zero, suc, ◌+◌, ◌-◌, ◌*◌, ◌/◌, ◌%◌, ◌^◌, ◌≤◌, ◌<◌}
use native.Mathlib.Nat.{mod-lt, div-lt_iff_lt-mul, le_refl, le_trans, le_of_eq, le-suc, lt_of_lt_of_le, lt_of_le_of_lt, lt_irrefl, not-suc-le-zero, mul-one, one-mul, mul_comm, mul_right_comm, mul-pos, mul-le-mul_right, mul-le-mul_left, le_of_mul-le-mul_right}
use native.Mathlib.Omega.{arith}
use borrow.Author.Tests.{le-ltb, ne_eqb, eq-eqb}
use lib.Dec.{ltb, eqb, leb, leb→le, lit<, lit≤}
use lib.IntN.{ℤ, pos}
use lib.ListN.{length, get_or}
use lib.Pow.{pow_pos}
use lib.Ieee.{Float, nan, inf, fin, binary32, up, down, size, div, lt, le, eq, ne}
use lib.Ieee.Fits.{down_pos}
use Rattle.transform.specs.Kinds.{width_of, height_of, area_of, places_of}
use Rattle.transform.proofs.Laws.{at, width_le, height_le}
use Rattle.params.specs.Allowed.{row_allowed}
use Rattle.bands.specs.Bands.{nought, one, at_of, band_at, barred}
use Rattle.bands.specs.Freqs.{interpolated, freq_weight}
use Rattle.bands.proofs.Sound.{sound_every}
use Rattle.bands.proofs.Units.{Units, div_units}
use Rattle.bands.proofs.Ranged.{Banded, round_banded}
use Rattle.matrix.specs.declared.numbers.Numbers.{Numbers}
use Rattle.std.specs.Prelude.{Ok, Err}
use Rattle.matrix.specs.declared.ExpandError.TheVariants.{Band}
use Rattle.matrix.specs.Raw.{refused, weight_of}
use Rattle.matrix.specs.Numbers.{numbers_of, number_of, count}
use Rattle.matrix.specs.Expanded.{Expanded, reply_of, or_else, list_answer, band_answer, lent_right, kind_answer, expand_answer}
use Rattle.matrix.specs.Views.{Shaped}
use Rattle.matrix.specs.Weight.{weight_at, grid_weight, mode1, mode2, mode3, mode4, mode5, corner, from, layer, rule, weight_in}
use Rattle.matrix.proofs.Lending.{given}
use Rattle.matrix.proofs.OddLaws.{le_nought, plain_row}
use Rattle.matrix.proofs.RowFacts.{facts, row_shaped, not_raw}
use Rattle.promises.proofs.Accepts.{accepts, kind_passes}
use Rattle.promises.proofs.RowNumbers.{list_number, own_list}
use Rattle.promises.proofs.PowerBetween.{Within, Room}
use Rattle.promises.proofs.WeightBetween.{grid_within, freq_within}

-- ---- a value above 0 and below 100,000,000 is not refused
some_above : (m : ℕ) (e : ℤ) → 0 < m * up e → le (fin false m e) nought ≡ false
some_above m e low = le_nought false m e ∙ ne_eqb (m * up e) 0 (λ z. lt_irrefl 0 (subst (λ (n : ℕ). 0 < n) z low))

fine_fin : (m : ℕ) (e : ℤ) → 0 < m * up e → m * up e < 100000000 * down e → refused (fin false m e) ≡ false
unfolding refused le ne lt eq
fine_fin m e low high =
    ap (λ (b : Bool). (b || (eqb (390625 * 2 ^ 8 * down e) (m * up e * 1) && (true || eqb (390625 * 2 ^ 8 * down e) 0))) || (le (fin false m e) nought || ne (fin false m e) (fin false m e))) (le-ltb (390625 * 2 ^ 8 * down e) (m * up e * 1) (top (m * up e) (down e) high))
    ∙ ap (λ (b : Bool). (b && (true || eqb (390625 * 2 ^ 8 * down e) 0)) || (le (fin false m e) nought || ne (fin false m e) (fin false m e))) (ne_eqb (390625 * 2 ^ 8 * down e) (m * up e * 1) (λ z. apart (m * up e) (down e) high z))
    ∙ ap (λ (b : Bool). b || ne (fin false m e) (fin false m e)) (some_above m e low)
    ∙ ap (λ (b : Bool). not (b && (true || eqb (m * up e * down e) 0))) (eq-eqb (m * up e * down e) (m * up e * down e) refl)
  where
    top : (n d : ℕ) → n < 100000000 * d → n * 1 ≤ 390625 * 2 ^ 8 * d
    top n d h = omega arith

    apart : (n d : ℕ) → n < 100000000 * d → 390625 * 2 ^ 8 * d ≡ n * 1 → ⊥
    apart n d h z = omega arith

fine_value : (x : Float) (g : ℕ) → Units binary32 x g → 0 < g → g ≤ 2 ^ 175 → refused x ≡ false
fine_value nan g v l h = absurd v
fine_value (inf s) g v l h = absurd v
fine_value (fin true m e) g v l h = absurd (mathlib.Core.Bool.true≢false v.0)
fine_value (fin false m e) g v l h =
    fine_fin m e
    (lib.Ieee.Positive.first_pos (m * up e) (2 ^ 149) (subst (λ (z : ℕ). 0 < z) (sym v.1) (mul-pos l (down_pos e))))
    (under (m * up e) (down e) g (2 ^ 149) (pow_pos 149) (down_pos e) v.1 h)
  where
    -- 2 ^ 26 is below 100,000,000
    under : (n d g L : ℕ) → 0 < L → 0 < d → n * L ≡ g * d → g ≤ 67108864 * L → n < 100000000 * d
    under n d g L P D e h = lt_of_le_of_lt (le_of_mul-le-mul_right {m = n} {n = 67108864 * d} {k = L} (le_trans (le_of_eq e) (le_trans (mul-le-mul_right d h) (le_of_eq (mul_right_comm 67108864 L d)))) P) (wide d D)
      where
        wide : (d : ℕ) → 0 < d → 67108864 * d < 100000000 * d
        wide d D = omega arith

one_units : Units binary32 one (2 ^ 149)
one_units = (refl, refl)

-- ---- 1 / w for w from 2 ^ -26 to 2 ^ 42
abbrev pub Good : Float → Type 0
Good w = Banded (2 ^ 123) (2 ^ 191) w

inverse_fine : (w : Float) → Good w → refused (div binary32 one w) ≡ false
unfolding size
inverse_fine w b =
    let pos0 : 0 < b.at = lt_of_lt_of_le (pow_pos 123) b.least in
    let r : Banded (2 ^ 107) (2 ^ 175) (div binary32 one w) =
    subst (Banded (2 ^ 107) (2 ^ 175)) (sym (div_units binary32 one w (2 ^ 149) b.at pos0 one_units b.value))
    (round_banded (2 ^ 149) b.at 1 (2 ^ 42) (2 ^ 26) 1 pos0 (lit< tt) (lit< tt)
    (le_trans (le_of_eq (mul-one (2 ^ 149))) (mul-le-mul_left (2 ^ 26) b.least))
    (le_trans (le_of_eq (one-mul b.at)) b.most)
    (lit< tt)) in
    fine_value (div binary32 one w) r.at r.value (lt_of_lt_of_le (pow_pos 107) r.least) r.most

-- ---- what lies from 2 ^ -24 to 2 ^ 40, and from 1/2 to 2, in units of 2 ^ -149
abbrev pub Moderate : Float → Type 0
Moderate = Banded (2 ^ (149 - 24)) (2 ^ (149 + 40))

abbrev pub Divisor : Float → Type 0
Divisor = Banded (2 ^ (149 - 1)) (2 ^ (149 + 1))

tame_room : Room (2 ^ 125) (2 ^ 189)
tame_room = record { low = lit≤ tt; high = lit≤ tt; near = lit≤ tt }

cut_down : (at L H : ℕ) → at * 1000000 ≤ H * 1000002 → at ≤ 2 * H
cut_down at L H h = le_of_mul-le-mul_right {k = 1000000} (le_trans h (wide H)) (lit< tt)
  where
    wide : (H : ℕ) → H * 1000002 ≤ 2 * H * 1000000
    wide H = omega arith

cut_up : (at L : ℕ) → 2 * L * 999998 ≤ at * 1000000 → L ≤ at
cut_up at L h = le_of_mul-le-mul_right {k = 1000000} (le_trans (wide L) h) (lit< tt)
  where
    wide : (L : ℕ) → L * 1000000 ≤ 2 * L * 999998
    wide L = omega arith

-- an interpolated weight
abbrev Fair : Float → Type 0
Fair w = Banded (2 ^ 124) (2 ^ 190) w

within_fair : (w : Float) → Within (2 ^ 125) (2 ^ 189) w → Fair w
within_fair w r = record { at = r.at; value = r.value; most = cut_down r.at 0 (2 ^ 189) r.most; least = cut_up r.at (2 ^ 124) r.least }

wider : (a b c d : ℕ) (z : Float) → c ≤ a → b ≤ d → Banded a b z → Banded c d z
wider a b c d z l h r = record { at = r.at; value = r.value; most = le_trans r.most h; least = le_trans l r.least }

fair_good : (w : Float) → Fair w → Good w
fair_good w r = wider (2 ^ 124) (2 ^ 190) (2 ^ 123) (2 ^ 191) w (lit≤ tt) (lit≤ tt) r

tame_good : (w : Float) → Moderate w → Good w
tame_good w r = wider (2 ^ 125) (2 ^ 189) (2 ^ 123) (2 ^ 191) w (lit≤ tt) (lit≤ tt) r

-- divided by a number from 1/2 to 2
over_good : (w p : Float) → Fair w → Divisor p → Good (div binary32 w p)
unfolding size
over_good w p b r =
    let pos0 : 0 < r.at = lt_of_lt_of_le (pow_pos 148) r.least in
    subst Good (sym (div_units binary32 w p b.at r.at pos0 b.value r.value))
    (round_banded b.at r.at 1 (2 ^ 26) (2 ^ 42) 1 pos0 (lit< tt) (lit< tt)
    (le_trans (le_of_eq (mul-one b.at)) (le_trans b.most (mul-le-mul_left (2 ^ 42) r.least)))
    (le_trans (le_of_eq (one-mul r.at)) (le_trans r.most (mul-le-mul_right (2 ^ 26) b.least)))
    (lit< tt))

one_good : Good one
one_good = record { at = 2 ^ 149; value = one_units; most = lit≤ tt; least = lit≤ tt }

-- ---- the numbers
-- by mode: how many of a channel's own numbers stand in the matrix, or divide a weight of it
abbrev pub used : ℕ → ℕ
used m = get_or (0 ∷ 3 ∷ 6 ∷ 2 ∷ 1 ∷ 5 ∷ []) m 0

-- bands and numbers from 2 ^ -24 to 2 ^ 40; what modes 3 and 4 divide by from 1/2 to 2
pub record Tame (n : Numbers) : Type 0 where
  pub bands : (l c i : ℕ) → c < 3 → i < count n l → Moderate (band_at (list_number n l c) i)
  pub numbers : (c i : ℕ) → c < 3 → i < used n.mode → Moderate (number_of n c i)
  pub divisors : 3 ≤ n.mode → n.mode ≤ 4 → (c i : ℕ) → c < 3 → i < used n.mode → Divisor (number_of n c i)
  pub own : n.mode ≡ 5 → (c i : ℕ) → c < 3 → i < 4 → Moderate (band_at (at_of (own_list n c)) i)

-- ---- no band is refused
above_passes : (m : ℕ) (e : ℤ) → 0 < m * up e → barred (fin false m e) ≡ false
unfolding barred le lt eq
above_passes m e low = ap (λ (b : Bool). b || false) (some_above m e low)

banded_passes : (b : Float) → Moderate b → barred b ≡ false
banded_passes b r = go b r.at r.value (lt_of_lt_of_le (pow_pos 125) r.least)
  where
    go : (x : Float) (g : ℕ) → Units binary32 x g → 0 < g → barred x ≡ false
    go nan g v h = absurd v
    go (inf s) g v h = absurd v
    go (fin true m e) g v h = absurd (mathlib.Core.Bool.true≢false v.0)
    go (fin false m e) g v h = above_passes m e (lib.Ieee.Positive.first_pos (m * up e) (2 ^ 149) (subst (λ (z : ℕ). 0 < z) (sym v.1) (mul-pos h (down_pos e))))

module _ (n : Numbers) (k : ℕ) (t : Tame n) where
  list_done : (l c : ℕ) → c < 3 → list_answer n k c l ≡ Ok tt
  unfolding list_answer
  list_done l c h =
      ap (λ (s : ℕ). cond (ltb s (count n l)) (Err (Band k c s)) (Ok tt)) (sound_every (list_number n l c) (count n l) (λ i g. banded_passes (band_at (list_number n l c) i) (t.bands l c i h g)))
      ∙ ap (λ (b : Bool). cond b (Err (Band k c (count n l))) (Ok tt)) (le-ltb (count n l) (count n l) (le_refl (count n l)))

  -- no band of a tame list is refused
  pub tame_bands : (m : ℕ) → m ≤ 3 → band_answer n k m ≡ Ok tt
  unfolding band_answer
  tame_bands zero h = refl
  tame_bands (suc m) h =
      ap (λ (a : Expanded). or_else a (or_else (list_answer n k m 0) (list_answer n k m 1))) (tame_bands m (le_trans (le-suc m) h))
      ∙ ap (λ (a : Expanded). or_else a (list_answer n k m 1)) (list_done 0 m h)
      ∙ list_done 1 m h

-- ---- no weight is
either : (b : Bool) (x y : Float) → Good x → Good y → Good (cond b x y)
either true x y p q = p
either false x y p q = q

sides : (k : ℕ) → k < 17 → (2 ≤ width_of k) × (2 ≤ height_of k)
unfolding width_of height_of
sides k h = (leb→le 2 (width_of k) (at (λ k. leb 2 (width_of k)) 17 tt k h), leb→le 2 (height_of k) (at (λ k. leb 2 (height_of k)) 17 tt k h))

module _ (n : Numbers) (k : ℕ) (shaped : Shaped n k) (t : Tame n) (c y x : ℕ) (hc : c < 3) where
  grid_fair : (l w h y x : ℕ) → 1 ≤ count n l → count n l ≤ 16 → 2 ≤ w → w ≤ 256 → 2 ≤ h → h ≤ 256 → y < h → x < w → Fair (grid_weight n l c w h y x)
  unfolding grid_weight
  grid_fair l w h y x some few a b d e f g =
      within_fair (grid_weight n l c w h y x) (grid_within (2 ^ 125) (2 ^ 189) tame_room (band_at (list_number n l c)) (count n l) (λ i z. t.bands l c i hc z) w h y x some few a b d e f g)

  small_fair : (l w : ℕ) → 1 ≤ count n l → count n l ≤ 16 → 2 ≤ w → w ≤ 8 → (y x : ℕ) → y < 4 → x < w → Fair (grid_weight n l c w 4 y x)
  small_fair l w some few a b y x f g = grid_fair l w 4 y x some few a (le_trans b (lit≤ tt)) (lit≤ tt) (lit≤ tt) f g

  number_good : (m i : ℕ) → n.mode ≡ m → i < used m → Good (number_of n c i)
  number_good m i e h = tame_good (number_of n c i) (t.numbers c i hc (subst (λ (m : ℕ). i < used m) (sym e) h))

  divided : (m i : ℕ) (w : Float) → n.mode ≡ m → 3 ≤ m → m ≤ 4 → i < used m → Fair w → Good (div binary32 w (number_of n c i))
  divided m i w e a b h f =
      over_good w (number_of n c i) f
      (t.divisors (subst (λ (m : ℕ). 3 ≤ m) (sym e) a) (subst (λ (m : ℕ). m ≤ 4) (sym e) b) c i hc (subst (λ (m : ℕ). i < used m) (sym e) h))

  good1 : n.mode ≡ 1 → (p : ℕ) → Good (mode1 (number_of n c) p)
  unfolding mode1
  good1 e p =
      either (eqb p 0) one _ one_good
      (either (eqb p 1 || eqb p 8) (number_of n c 1) _ (number_good 1 1 e (lit< tt)) (either (eqb p 9) (number_of n c 2) (number_of n c 0) (number_good 1 2 e (lit< tt)) (number_good 1 0 e (lit< tt))))

  layer_good : n.mode ≡ 2 → (d i y x : ℕ) (other : Float) → i + 1 < 6 → Good other → Good (layer (number_of n c) d i y x other)
  layer_good e d i y x other h g =
      either ((ltb y d && from d x) || (ltb x d && from d y)) (number_of n c i) _ (number_good 2 i e (omega arith))
      (either (from d y && from d x) (number_of n c (i + 1)) other (number_good 2 (i + 1) e h) g)

  good2 : n.mode ≡ 2 → (y x : ℕ) → Good (mode2 (number_of n c) y x)
  unfolding mode2
  good2 e y x =
      layer_good e 1 0 y x (layer (number_of n c) 2 2 y x (layer (number_of n c) 4 4 y x one)) (lit< tt)
      (layer_good e 2 2 y x (layer (number_of n c) 4 4 y x one) (lit< tt) (layer_good e 4 4 y x one (lit< tt) one_good))

  good3 : n.mode ≡ 3 → (p : ℕ) (w : Float) → Fair w → Good (mode3 (number_of n c) p w)
  unfolding mode3
  good3 e p w f =
      either (eqb p 1 || eqb p 8) (div binary32 w (number_of n c 0)) _ (divided 3 0 w e (lit≤ tt) (lit≤ tt) (lit< tt) f)
      (either (eqb p 9) (div binary32 w (number_of n c 1)) w (divided 3 1 w e (lit≤ tt) (lit≤ tt) (lit< tt) f) (fair_good w f))

  good4 : n.mode ≡ 4 → (p : ℕ) (w : Float) → Fair w → Good (mode4 (number_of n c) p w)
  unfolding mode4
  good4 e p w f = either (eqb p 8) (div binary32 w (number_of n c 0)) w (divided 4 0 w e (lit≤ tt) (lit≤ tt) (lit< tt) f) (fair_good w f)

  -- mode 5's even rows and columns
  good_corner : n.mode ≡ 5 → (p : ℕ) → p < 16 → Good (corner (number_of n c) p)
  unfolding corner
  good_corner e p h = go (eqb p 0) (eqb p 4) (eqb p 1) (eqb p 5) refl refl refl refl
    where
      on : eqb p 0 ≡ false → eqb p 4 ≡ false → eqb p 1 ≡ false → eqb p 5 ≡ false → interpolated p ≡ true
      on a b d f =
          ap (λ (z : Bool). z && not (eqb p 0 || (eqb p 1 || (eqb p 4 || eqb p 5)))) (borrow.Author.Tests.lt-ltb p 16 h)
          ∙ ap (λ (z : Bool). not (z || (eqb p 1 || (eqb p 4 || eqb p 5)))) a
          ∙ ap (λ (z : Bool). not (z || (eqb p 4 || eqb p 5))) d
          ∙ ap (λ (z : Bool). not (z || eqb p 5)) b
          ∙ ap not f

      go : (a b d f : Bool) → eqb p 0 ≡ a → eqb p 4 ≡ b → eqb p 1 ≡ d → eqb p 5 ≡ f
          → Good (cond a one (cond b (number_of n c 2) (cond d (number_of n c 3) (cond f (number_of n c 4) (freq_weight (own_list n c) p)))))
      go true b d f i j k l = one_good
      go false true d f i j k l = number_good 5 2 e (lit< tt)
      go false false true f i j k l = number_good 5 3 e (lit< tt)
      go false false false true i j k l = number_good 5 4 e (lit< tt)
      go false false false false i j k l =
          fair_good (freq_weight (own_list n c) p) (within_fair (freq_weight (own_list n c) p) (freq_within (2 ^ 125) (2 ^ 189) tame_room (own_list n c) p (on i j k l) (λ z g. t.own e c z hc g)))

  good5 : n.mode ≡ 5 → (y x : ℕ) (a b : Float) → y < 8 → x < 8 → Fair a → Fair b → Good (mode5 (number_of n c) y x a b)
  unfolding mode5
  good5 e y x a b hy hx f g =
      either (eqb (y % 2) 1) (cond (eqb (y * 8 + x) 8) (number_of n c 0) a) _ (either (eqb (y * 8 + x) 8) (number_of n c 0) a (number_good 5 0 e (lit< tt)) (fair_good a f))
      (either (eqb (x % 2) 1) (cond (eqb (y * 8 + x) 1) (number_of n c 1) b) (corner (number_of n c) (y / 2 * 4 + x / 2)) (either (eqb (y * 8 + x) 1) (number_of n c 1) b (number_good 5 1 e (lit< tt)) (fair_good b g))
      (good_corner e (y / 2 * 4 + x / 2) (omega arith)))

  first_some : (m : ℕ) → n.mode ≡ m → 3 ≤ m → 1 ≤ n.first
  first_some m e h = shaped.some (subst (λ (m : ℕ). 3 ≤ m) (sym e) h)

  row_small : (m : ℕ) → n.mode ≡ m → m ≤ 5 → y < height_of k → y < 8
  row_small m e h hy = lt_of_lt_of_le hy (le_of_eq (shaped.high (subst (λ (m : ℕ). m ≤ 5) (sym e) h)))

  column_small : (m : ℕ) → n.mode ≡ m → m ≤ 5 → x < width_of k → x < 8
  column_small m e h hx = lt_of_lt_of_le hx (le_of_eq (shaped.wide (subst (λ (m : ℕ). m ≤ 5) (sym e) h)))

  halved : (i : ℕ) → i < 8 → i / 2 < 4
  halved i h = omega arith

  rule_good : y < height_of k → x < width_of k → (m : ℕ) → n.mode ≡ m → 1 ≤ m → m ≤ 6 → Good (rule n k c y x m)
  unfolding rule
  rule_good hy hx zero e a b = absurd (not-suc-le-zero a)
  rule_good hy hx (suc zero) e a b = good1 e (y * 8 + x)
  rule_good hy hx (suc (suc zero)) e a b = good2 e y x
  rule_good hy hx (suc (suc (suc zero))) e a b =
      good3 e (y * 8 + x) (grid_weight n 0 c 4 4 (y / 2) (x / 2))
      (small_fair 0 4 (first_some 3 e (lit≤ tt)) shaped.few.first (lit≤ tt) (lit≤ tt) (y / 2) (x / 2) (halved y (row_small 3 e (lit≤ tt) hy)) (halved x (column_small 3 e (lit≤ tt) hx)))
  rule_good hy hx (suc (suc (suc (suc zero)))) e a b =
      good4 e (y * 8 + x) (grid_weight n 0 c 8 4 (y / 2) x)
      (small_fair 0 8 (first_some 4 e (lit≤ tt)) shaped.few.first (lit≤ tt) (lit≤ tt) (y / 2) x (halved y (row_small 4 e (lit≤ tt) hy)) (column_small 4 e (lit≤ tt) hx))
  rule_good hy hx (suc (suc (suc (suc (suc zero))))) e a b =
      good5 e y x (grid_weight n 0 c 8 4 (y / 2) x) (grid_weight n 1 c 4 4 (y / 2) (x / 2)) (row_small 5 e (lit≤ tt) hy) (column_small 5 e (lit≤ tt) hx)
      (small_fair 0 8 (first_some 5 e (lit≤ tt)) shaped.few.first (lit≤ tt) (lit≤ tt) (y / 2) x (halved y (row_small 5 e (lit≤ tt) hy)) (column_small 5 e (lit≤ tt) hx))
      (small_fair 1 4 (shaped.more e) shaped.few.second (lit≤ tt) (lit≤ tt) (y / 2) (x / 2) (halved y (row_small 5 e (lit≤ tt) hy)) (halved x (column_small 5 e (lit≤ tt) hx)))
  rule_good hy hx (suc (suc (suc (suc (suc (suc m)))))) e a b =
      let w = sides k shaped.named in
      fair_good (grid_weight n 0 c (width_of k) (height_of k) y x)
      (grid_fair 0 (width_of k) (height_of k) y x (first_some (suc (suc (suc (suc (suc (suc m)))))) e (omega arith)) shaped.few.first w.0 (width_le k) w.1 (height_le k) hy hx)

-- ---- so the kind is accepted
weight_plain : (n : Numbers) (zs : List ℤ) (k c p : ℕ) → (n.mode ≡ 7 → ⊥) → weight_in n zs k c p ≡ div binary32 one (rule n k c (p / width_of k) (p % width_of k) n.mode)
unfolding weight_in
weight_plain n zs k c p h =
    ap (λ (t : Bool). cond t (weight_of (get_or n.values 0 nought) (get_or zs (c * area_of k + p) (pos 0))) (div binary32 one (rule n k c (p / width_of k) (p % width_of k) n.mode))) (ne_eqb n.mode 7 h)

place_in : (k p : ℕ) → k < 17 → p < places_of k → (p / area_of k < 3) × (p % area_of k / width_of k < height_of k) × (p % area_of k % width_of k < width_of k)
unfolding places_of area_of
place_in k p h g =
    let s = sides k h in
    let W : 0 < width_of k = lt_of_lt_of_le (lit< tt) s.0 in
    let A : 0 < width_of k * height_of k = mul-pos W (lt_of_lt_of_le (lit< tt) s.1) in
    ((div-lt_iff_lt-mul A).1 g, (div-lt_iff_lt-mul W).1 (lt_of_lt_of_le (mod-lt p A) (le_of_eq (mul_comm (width_of k) (height_of k)))), mod-lt (p % (width_of k * height_of k)) W)

-- BAND and WEIGHT let a row pass whose numbers are tame, whatever samples are lent
pub tame_passes : (k : ℕ) (row : List ℕ) (zs : List ℤ) → Shaped (numbers_of row k) k → Tame (numbers_of row k) → reply_of (kind_answer row zs k) ≡ 0 ∷ []
unfolding weight_at
tame_passes k row zs s t =
    kind_passes k row zs (ap reply_of (tame_bands (numbers_of row k) k t 3 (le_refl 3)))
    (λ p h. let i = place_in k p s.named h in
    ap refused (weight_plain (numbers_of row k) zs k (p / area_of k) (p % area_of k) (not_raw (numbers_of row k) k s))
    ∙ inverse_fine (rule (numbers_of row k) k (p / area_of k) (p % area_of k / width_of k) (p % area_of k % width_of k) (numbers_of row k).mode)
    (rule_good (numbers_of row k) k s t (p / area_of k) (p % area_of k / width_of k) (p % area_of k % width_of k) i.0 i.1 i.2 (numbers_of row k).mode refl s.least s.most))

-- so a kind that is not raw and whose numbers are tame is accepted where LENT and ROW pass
pub tame_accepts : (k : ℕ) (row : List ℕ) (zs : List ℤ) (s t : ℕ) → lent_right k row (length zs) s t ≡ true → row_allowed k row ≡ true → (get_or row 0 0 ≡ 7 → ⊥) → Tame (numbers_of row k)
    → reply_of (expand_answer k row zs s t) ≡ 0 ∷ []
tame_accepts k row zs s t lent ok plain tame =
    accepts k row zs s t lent ok (plain_row row plain) (tame_passes k row zs (row_shaped k row (given k row (length zs) s t lent).kind (facts k row ok) plain) tame)
