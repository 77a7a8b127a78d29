-- If all bands of a list lie between two bounds, so does every weight of a grid, and every number that mode 5 interpolates, up to two parts in 1,000,000. Assumes nothing.
use mathlib.Core.Path.{◌≡◌, refl, sym, subst}
use mathlib.Core.Logic.{⊎_elim}
use mathlib.Core.Bool.{Bool, true, false, cond}
use mathlib.Core.List.{List}
use Prim.Native.Nat.{ℕ, ◌+◌, ◌-◌, ◌≤◌, ◌<◌}
use native.Mathlib.Nat.{mul-le-mul}
use native.Mathlib.Omega.{arith}
use borrow.Author.Tests.{eqb-false}
use lib.Dec.{eqb, lit≤}
use lib.Ieee.{Float, binary32, mul, div}
use Rattle.bands.specs.Bands.{at_of, band_at}
use Rattle.bands.specs.Distance.{distance_of}
use Rattle.bands.specs.Position.{position_of, index_of, Cut}
use Rattle.bands.specs.Power.{P}
use Rattle.bands.specs.Weights.{segment_weight, between, band_weight}
use Rattle.bands.specs.Freqs.{freq_position, interpolated, freq_weight}
use Rattle.bands.proofs.Ranged.{Banded}
use Rattle.promises.proofs.Steps.{steps_is}
use Rattle.bands.proofs.Freqs.{freq_cut, on_small, weight_is}
use Rattle.bands.proofs.Asserts.{place_cut}
use Rattle.promises.proofs.PowerBetween.{Within, Room, segment_within}

-- a band itself
banded_within : (lo hi : ℕ) (z : Float) → Banded lo hi z → Within lo hi z
banded_within lo hi z b = record { at = b.at; value = b.value; most = mul-le-mul b.most (lit≤ tt); least = mul-le-mul b.least (lit≤ tt) }

module _ (lo hi : ℕ) (room : Room lo hi) (bs : ℕ → Float) (n : ℕ) (bands : (i : ℕ) → i < n → Banded lo hi (bs i)) where
  -- at any position among the bands
  between_within : (p : Float) → Cut n p → Within lo hi (between bs p)
  unfolding between segment_weight
  between_within p c =
      subst (λ (k : ℕ). Within lo hi (mul binary32 (bs (index_of p)) (P (div binary32 (bs (index_of p + 1)) (bs (index_of p))) k))) (sym (steps_is p n c))
      (segment_within lo hi room (bs (index_of p)) (bs (index_of p + 1)) (bands (index_of p) (one_less (index_of p) n c.inside)) (bands (index_of p + 1) c.inside) c.n c.small)
    where
      one_less : (i n : ℕ) → i + 1 < n → i < n
      one_less i n h = omega arith

  -- at row y, column x of a grid of width w and height h; only for bounds that leave room (`Room`): a list with subnormal bands is not spoken of
  pub grid_within : (w h y x : ℕ) → 1 ≤ n → n ≤ 16 → 2 ≤ w → w ≤ 256 → 2 ≤ h → h ≤ 256 → y < h → x < w → Within lo hi (band_weight bs n w h y x)
  unfolding band_weight
  grid_within w h y x some few wide not_wider high not_higher row column = go (eqb n 1) refl
    where
      more : (n ≡ 1 → ⊥) → 2 ≤ n
      more e = ⊎_elim (λ z. absurd (e (sym z))) (λ l. l) (native.Mathlib.Nat.eq-or-lt_of_le some)

      go : (b : Bool) → eqb n 1 ≡ b → Within lo hi (cond b (bs 0) (between bs (position_of (distance_of x y (w - 1) (h - 1)) n)))
      go true e = banded_within lo hi (bs 0) (bands 0 some)
      go false e =
          between_within (position_of (distance_of x y (w - 1) (h - 1)) n)
          (place_cut n w h y x (more (eqb-false n 1 e)) few wide not_wider high not_higher row column)

-- mode 5's number at a place of FREQS that has one; only where all its four bands are above zero and leave room
pub freq_within : (lo hi : ℕ) → Room lo hi → (ps : List Float) (k : ℕ) → interpolated k ≡ true → ((i : ℕ) → i < 4 → Banded lo hi (band_at (at_of ps) i)) → Within lo hi (freq_weight ps k)
freq_within lo hi room ps k on bands =
    subst (Within lo hi) (weight_is ps k on) (between_within lo hi room (band_at (at_of ps)) 4 bands (freq_position k) (freq_cut k (on_small k on) on))
