-- The positions of eight columns: each lane's root is a distance. Assumes nothing.
use Rattle.std.proofs.Common.{◌≡◌, ℕ, ◌+◌, ◌-◌, ◌*◌, ◌^◌, ◌<◌, ◌≤◌, min, ◌⊎◌, List, length, get_or, set, replicate, sym, refl, ap, ◌∙◌, subst, inl, inr, le_trans, le_of_eq, lt_of_lt_of_le, not-suc-le-zero, lt_of_le_of_lt, arith, length-set, get_or-set_other, get_or-set_same}
use native.Mathlib.Nat.{min-le_right, min-eq_left}
use lib.ListN.{length-replicate, get_or-replicate}
use lib.Ieee.{Float, nan, binary32, to_bits, of_bits, mul}
use lib.Ieee.Bits.{of_bits-to_bits}
use lib.Ieee.Fits.{add-fits}
use Rattle.bands.specs.Root.{whole_root, root_of}
use Rattle.bands.specs.Distance.{share_of, distance_of}
use Rattle.bands.specs.Position.{position_of}
use Rattle.bands.specs.Eights.{Lane, Lanes, Begun, Ended, raised_of, Inside, sum_of, sum_bits, Squared}
use Rattle.bands.specs.Grids.{Columns}
use Rattle.bands.proofs.ChainLists.{split_lt}
use Rattle.bands.proofs.LaneRoots.{lane_raised, raised_root}
use Rattle.bands.proofs.Distance.{sum_finite, sum_normal}

-- eight columns of a grid, by its sides
pub inside : (x y w h : ℕ) → x + 8 ≤ 256 → y < h → 2 ≤ w → w ≤ 256 → 2 ≤ h → h ≤ 256 → Inside x y (w - 1) (h - 1)
inside x y w h a b c d e f = record { near = omega arith; wide = omega arith; not_wider = omega arith; low = omega arith; high = omega arith; not_higher = omega arith }

-- what lane i is the root of
abbrev numbers : ℕ → ℕ → ℕ → ℕ → ℕ → ℕ
numbers x y right bottom i = raised_of (sum_bits x y right bottom i) * 2 ^ 18

module _ (x y right bottom : ℕ) (p : Inside x y right bottom) (bits up : List ℕ) (s : Squared x y right bottom bits up) where
  lanes : Lanes (numbers x y right bottom) 25 (replicate 8 0) (replicate 8 0) up
  lanes = record {
    roots = length-replicate {A = ℕ} 8 0;
    rems = length-replicate {A = ℕ} 8 0;
    lefts = s.long;
    each = λ i h.
        let z = sym (get_or-replicate {A = ℕ} 8 i 0 0 h) in
        subst (λ (o : ℕ). Lane (numbers x y right bottom i) 25 o o (get_or up i 0)) z (subst (Lane (numbers x y right bottom i) 25 0 0) (sym (s.high i h)) (lane_raised (sum_bits x y right bottom i)));
  }

  pub columns_begun : Begun 25 (replicate 8 0) (replicate 8 0) up
  columns_begun = record { of = numbers x y right bottom; lanes = lanes }

  module _ (r m : List ℕ) (e : Ended 25 (replicate 8 0) (replicate 8 0) up r m) (i : ℕ) (I : i < 8) where
    finite : (c : ℕ) → c ≤ right → to_bits binary32 (sum_of c y right bottom) < 0x7f80_0000
    finite c h = sum_finite c y right bottom h p.wide p.not_wider p.low p.high p.not_higher

    pub column_asked : (get_or bits i 0 < 0x7f80_0000) × (get_or r i 0 < 2 ^ 25)
    column_asked = (lt_of_le_of_lt (le_of_eq (s.low i I)) (finite (min (x + i) right) (min-le_right (x + i) right)), lt_of_le_of_lt (le_of_eq (e.is (numbers x y right bottom) lanes i I)) (raised_root (sum_bits x y right bottom i)))

    -- in a column of the grid
    module _ (inside : x + i ≤ right) (some : 0 < x + i + y) where
      column : get_or bits i 0 ≡ to_bits binary32 (sum_of (x + i) y right bottom)
      column = s.low i I ∙ ap (λ (c : ℕ). to_bits binary32 (sum_of c y right bottom)) (min-eq_left inside)

      normal : 2 ^ 23 ≤ get_or bits i 0
      normal = le_trans (sum_normal (x + i) y right bottom inside p.wide p.not_wider p.low p.high p.not_higher some) (le_of_eq (sym column))

      pub column_root : (v : Float) → (2 ^ 23 ≤ get_or bits i 0 → get_or r i 0 ≡ whole_root (raised_of (get_or bits i 0) * 2 ^ 18) → v ≡ root_of (of_bits binary32 (get_or bits i 0))) → v ≡ distance_of (x + i) y right bottom
      unfolding distance_of
      column_root v h =
          h normal (e.is (numbers x y right bottom) lanes i I ∙ ap (λ (b : ℕ). whole_root (raised_of b * 2 ^ 18)) (sym (s.low i I)))
          ∙ ap (λ (b : ℕ). root_of (of_bits binary32 b)) column
          ∙ ap root_of (of_bits-to_bits binary32 (sum_of (x + i) y right bottom) (add-fits binary32 (mul binary32 (share_of (x + i) right) (share_of (x + i) right)) (mul binary32 (share_of y bottom) (share_of y bottom))))

-- ---- the first i of eight columns laid
pub record Laying (x y n right bottom : ℕ) (l r : List Float) (i : ℕ) : Type 0 where
  pub long : length r ≡ length l
  pub before : (k : ℕ) → k < x → get_or r k nan ≡ get_or l k nan
  pub each : (k : ℕ) → k < i → x + k ≤ right → 0 < x + k + y → get_or r (x + k) nan ≡ position_of (distance_of (x + k) y right bottom) n

module _ (x y n right bottom : ℕ) (l : List Float) where
  pub laying_none : Laying x y n right bottom l l 0
  laying_none = record { long = refl; before = λ k h. refl; each = λ k h. absurd (not-suc-le-zero h) }

  pub laying_more : (r : List Float) (i : ℕ) (v : Float) → x + i < length r → Laying x y n right bottom l r i → (x + i ≤ right → 0 < x + i + y → v ≡ position_of (distance_of (x + i) y right bottom) n)
      → Laying x y n right bottom l (set r (x + i) v) (i + 1)
  laying_more r i v h t e = record {
    long = length-set r (x + i) v ∙ t.long;
    before = λ k b. get_or-set_other r (x + i) k v nan (λ (q : k ≡ x + i). omega arith) ∙ t.before k b;
    each = λ k b. go k (split_lt k i b);
  }
    where
      go : (k : ℕ) → (k ≡ i) ⊎ (k < i) → x + k ≤ right → 0 < x + k + y → get_or (set r (x + i) v) (x + k) nan ≡ position_of (distance_of (x + k) y right bottom) n
      go k (inl q) = subst (λ (j : ℕ). x + j ≤ right → 0 < x + j + y → get_or (set r (x + i) v) (x + j) nan ≡ position_of (distance_of (x + j) y right bottom) n) (sym q) (λ a b. get_or-set_same r (x + i) v nan h ∙ e a b)
      go k (inr q) = λ a b. get_or-set_other r (x + i) (x + k) v nan (λ (z : x + k ≡ x + i). omega arith) ∙ t.each k q a b

  pub laying_all : (r : List Float) (i : ℕ) → 8 ≤ i → Laying x y n right bottom l r i → Columns x y n right bottom l r
  laying_all r i h t = record { long = t.long; before = t.before; each = λ k b. t.each k (lt_of_lt_of_le b h) }
