-- The place theorem speaks of something: for every kind, channel, row and column there are two expanded sets that differ in the one sample there, and so their weights differ
-- at that place and at its mirror place. All 17 rows are raw of denominator 1004, all samples are 16, and in the second set that one is 17. Assumes nothing.
use mathlib.Core.Path.{◌≡◌, refl, sym, ap, ◌∙◌, subst⁻¹}
use mathlib.Core.Bool.{false}
use mathlib.Core.Logic.{◌⊎◌, inl, inr, ⊎_elim}
use mathlib.Core.List.{List}
use Prim.Native.Nat.{ℕ, ◌+◌, ◌≤◌, ◌<◌}
use native.Mathlib.Decide.{ℕ_discrete}
use native.Mathlib.Omega.{arith}
use lib.Dec.{lit≤, lit<}
use lib.IntN.{ℤ, pos, nat_abs}
use lib.ListN.{length, get_or, set, replicate, length-set, length-replicate, get_or-replicate}
use lib.Seq.{get_or-set_same, get_or-set_other}
use lib.Ieee.{Float, nan, round, mul, of_int, le, ne}
use Rattle.transform.specs.Kinds.{width_of, height_of, start_of}
use Rattle.bitstream.specs.Half.{half}
use Rattle.matrix.specs.Mirror.{straight_place, transposed_place}
use Rattle.matrix.specs.Raw.{weight_of, refused}
use Rattle.matrix.specs.Expanded.{reply_of}
use Rattle.matrix.proofs.OddLaws.{not_odd_lem}
use Rattle.dequant.specs.Set.{straight_arena, transposed_arena, expand_set}
use Rattle.dequant.proofs.Kindwise.{mode_at_lem}
use Rattle.promises.proofs.NumbersToHold.{p12}
use Rattle.promises.proofs.Places.{straight_in}
use Rattle.promises.proofs.RawOnes.{raw_all, in_arena, all_rows, all_done}
use Rattle.promises.proofs.Differ.{RawSet, straight_apart, transposed_apart}

-- two sets of one description's rows, expanded whatever the two arenas held, that differ in the sample at channel c, row y and column x of the raw kind k, and nowhere else
pub record OneApart (k c y x : ℕ) (rows : List ℕ) (us vs : List ℤ) : Type 0 where
  pub first : (s t : List Float) → length s ≡ 394752 → length t ≡ 394752 → RawSet k rows us s t
  pub second : (s t : List Float) → length s ≡ 394752 → length t ≡ 394752 → RawSet k rows vs s t
  pub differ : get_or us (start_of k + straight_place k c y x) (pos 0) ≡ get_or vs (start_of k + straight_place k c y x) (pos 0) → ⊥
  pub alike : (i : ℕ) → (i ≡ start_of k + straight_place k c y x → ⊥) → get_or us i (pos 0) ≡ get_or vs i (pos 0)
  pub straight : get_or (straight_arena rows us) (start_of k + straight_place k c y x) nan ≡ get_or (straight_arena rows vs) (start_of k + straight_place k c y x) nan → ⊥
  pub transposed : get_or (transposed_arena rows us) (start_of k + transposed_place k c y x) nan ≡ get_or (transposed_arena rows vs) (start_of k + transposed_place k c y x) nan → ⊥

fine_17 : refused (weight_of (half 0x1004) (pos 17)) ≡ false
unfolding weight_of refused half round mul of_int le ne
fine_17 = refl

-- samples each 16 or 17
abbrev Near : ℤ → Type 0
Near z = (z ≡ pos 16) ⊎ (z ≡ pos 17)

near_fine : (z : ℤ) → Near z → refused (weight_of (half 0x1004) z) ≡ false
near_fine z = ⊎_elim (λ e. ap (λ (z : ℤ). refused (weight_of (half 0x1004) z)) e ∙ p12.1) (λ e. ap (λ (z : ℤ). refused (weight_of (half 0x1004) z)) e ∙ fine_17)

near_small : (z : ℤ) → Near z → nat_abs z ≤ 65535
near_small z = ⊎_elim (λ e. subst⁻¹ (λ (z : ℤ). nat_abs z ≤ 65535) e (lit≤ tt)) (λ e. subst⁻¹ (λ (z : ℤ). nat_abs z ≤ 65535) e (lit≤ tt))

-- a set of such samples is expanded
near_set : (k : ℕ) → k < 17 → (zs : List ℤ) → length zs ≡ 394752 → ((i : ℕ) → i < 394752 → Near (get_or zs i (pos 0))) → (s t : List Float) → length s ≡ 394752 → length t ≡ 394752 → RawSet k (raw_all 0x1004) zs s t
near_set k h zs l near s t ls lt = record {
  expanded = ap (λ (n : ℕ). reply_of (expand_set (raw_all 0x1004) zs n (length t))) ls ∙ ap (λ (n : ℕ). reply_of (expand_set (raw_all 0x1004) zs 394752 n)) lt
      ∙ all_done 0x1004 refl (not_odd_lem 0x1004 (lit< tt) (lit< tt)) zs l (λ i g. near_fine (get_or zs i (pos 0)) (near i g));
  raw = sym (mode_at_lem (raw_all 0x1004) k) ∙ ap (λ (r : List ℕ). get_or r 0 0) (all_rows 0x1004 refl k h);
  small = λ p g. near_small (get_or zs (start_of k + p) (pos 0)) (near (start_of k + p) (in_arena k p g));
}

-- n samples of 16, and the same with one of 17; n is 394,752
module _ (k c y x : ℕ) (hk : k < 17) (hc : c < 3) (hy : y < height_of k) (hx : x < width_of k) (n : ℕ) (whole : n ≡ 394752) where
  abbrev at : ℕ
  at = start_of k + straight_place k c y x

  abbrev us : List ℤ
  us = replicate n (pos 16)

  abbrev vs : List ℤ
  vs = set us at (pos 17)

  us_long : length us ≡ 394752
  us_long = length-replicate n (pos 16) ∙ whole

  us_at : (i : ℕ) → i < 394752 → get_or us i (pos 0) ≡ pos 16
  us_at i h = get_or-replicate n i (pos 16) (pos 0) (omega (arith, whole))

  here : at < 394752
  here = in_arena k (straight_place k c y x) (straight_in k c y x hc hy hx)

  vs_at : get_or vs at (pos 0) ≡ pos 17
  vs_at = get_or-set_same us at (pos 17) (pos 0) (subst⁻¹ (λ (m : ℕ). at < m) us_long here)

  vs_near : (i : ℕ) → i < 394752 → Near (get_or vs i (pos 0))
  vs_near i h = go (ℕ_discrete i at)
    where
      go : Dec (i ≡ at) → Near (get_or vs i (pos 0))
      go (yes e) = inr (ap (λ (j : ℕ). get_or vs j (pos 0)) e ∙ vs_at)
      go (no e) = inl (get_or-set_other us at i (pos 17) (pos 0) e ∙ us_at i h)

  first : (s t : List Float) → length s ≡ 394752 → length t ≡ 394752 → RawSet k (raw_all 0x1004) us s t
  first = near_set k hk us us_long (λ i h. inl (us_at i h))

  second : (s t : List Float) → length s ≡ 394752 → length t ≡ 394752 → RawSet k (raw_all 0x1004) vs s t
  second = near_set k hk vs (length-set us at (pos 17) ∙ us_long) vs_near

  differ : get_or us at (pos 0) ≡ get_or vs at (pos 0) → ⊥
  differ e = let z : ◌≡◌ {A = ℕ} 16 17 = ap nat_abs (sym (us_at at here) ∙ e ∙ vs_at) in omega arith

  apart : OneApart k c y x (raw_all 0x1004) us vs
  apart =
      let o : List Float = replicate n nan in
      let l : length o ≡ 394752 = length-replicate n nan ∙ whole in
      record {
        first = first;
        second = second;
        differ = differ;
        alike = λ i e. sym (get_or-set_other us at i (pos 17) (pos 0) e);
        straight = straight_apart k c y x hk hc hy hx (raw_all 0x1004) (raw_all 0x1004) us vs o o o o (first o o l l) (second o o l l) refl differ;
        transposed = transposed_apart k c y x hk hc hy hx (raw_all 0x1004) (raw_all 0x1004) us vs o o o o (first o o l l) (second o o l l) refl differ;
      }

-- so there are two such sets for every kind, channel, row and column
pub one_apart : (k c y x : ℕ) → k < 17 → c < 3 → y < height_of k → x < width_of k → (rows : List ℕ) × (us : List ℤ) × (vs : List ℤ) × OneApart k c y x rows us vs
one_apart k c y x hk hc hy hx = (raw_all 0x1004, us k c y x hk hc hy hx 394752 refl, vs k c y x hk hc hy hx 394752 refl, apart k c y x hk hc hy hx 394752 refl)
