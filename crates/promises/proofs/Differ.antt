-- Two expanded sets that share a raw kind and its denominator: where a sample of the kind differs, the straight weights differ at that place and the
-- transposed ones at its mirror place, in the arenas and in what lookup shows. Assumes nothing.
use mathlib.Core.Path.{◌≡◌, sym, ◌∙◌, subst}
use mathlib.Core.List.{List, [], ◌∷◌}
use Prim.Native.Nat.{ℕ, ◌+◌, ◌*◌, ◌^◌, ◌≤◌, ◌<◌}
use lib.IntN.{ℤ, pos, nat_abs}
use lib.ListN.{length, get_or}
use lib.Ieee.{Float, nan}
use Rattle.transform.specs.Kinds.{width_of, height_of, places_of, start_of, part}
use Rattle.params.specs.Allowed.{row_at, mode_at}
use Rattle.matrix.specs.Mirror.{straight_place, transposed_place}
use Rattle.matrix.specs.Weight.{weight_at}
use Rattle.matrix.specs.Expanded.{reply_of}
use Rattle.promises.proofs.Places.{straight_in, weights_at}
use Rattle.promises.proofs.RawPlaces.{Raw, straight_differs, in_range}
use Rattle.dequant.specs.declared.shown.Order.TheVariants.{Unnamed, Straight, Transposed}
use Rattle.dequant.specs.Set.{straight_arena, transposed_arena, expand_set}
use Rattle.dequant.specs.Shown.{shown}
use Rattle.dequant.proofs.Kindwise.{mode_at_lem}
use Rattle.promises.proofs.Arena.{part_get}
use Rattle.promises.proofs.AcceptedSet.{kind_done}
use Rattle.promises.proofs.Shows.{in_straight, in_transposed, shown_straight, shown_transposed, shown_unnamed}

-- a set that is expanded, with a raw kind whose samples all lie between -65,535 and 65,535
pub record RawSet (k : ℕ) (rows : List ℕ) (zs : List ℤ) (s t : List Float) : Type 0 where
  pub expanded : reply_of (expand_set rows zs (length s) (length t)) ≡ 0 ∷ []
  pub raw : mode_at rows k ≡ 7
  pub small : (p : ℕ) → p < places_of k → nat_abs (get_or zs (start_of k + p) (pos 0)) ≤ 65535

module _ (k c y x : ℕ) (hk : k < 17) (hc : c < 3) (hy : y < height_of k) (hx : x < width_of k) where
  -- the sample at channel c, row y and column x of kind k
  abbrev pub sample_of : List ℤ → ℤ
  sample_of zs = get_or zs (start_of k + straight_place k c y x) (pos 0)

  own_sample : (zs : List ℤ) → get_or (part k zs) (straight_place k c y x) (pos 0) ≡ sample_of zs
  own_sample zs = part_get k (straight_place k c y x) zs (pos 0) (straight_in k c y x hc hy hx)

  module _ (rows rows' : List ℕ) (us vs : List ℤ) (s t s' t' : List Float) (p : RawSet k rows us s t) (q : RawSet k rows' vs s' t')
      (same : get_or (row_at rows k) 3 0 ≡ get_or (row_at rows' k) 3 0) (differ : sample_of us ≡ sample_of vs → ⊥) where
    raw : (rows : List ℕ) (zs : List ℤ) (s t : List Float) → RawSet k rows zs s t → Raw k (row_at rows k) (part k zs) (places_of k) (places_of k)
    raw rows zs s t r = record { raw = mode_at_lem rows k ∙ r.raw; done = kind_done rows zs s t r.expanded k hk }

    reach : (rows : List ℕ) (zs : List ℤ) (s t : List Float) → RawSet k rows zs s t → nat_abs (get_or (part k zs) (straight_place k c y x) (pos 0)) < 2 ^ 23
    reach rows zs s t r = in_range (subst (λ (z : ℤ). nat_abs z ≤ 65535) (sym (own_sample zs)) (r.small (straight_place k c y x) (straight_in k c y x hc hy hx)))

    weights_differ : weight_at (row_at rows k) (part k us) k c (y * width_of k + x) ≡ weight_at (row_at rows' k) (part k vs) k c (y * width_of k + x) → ⊥
    weights_differ e =
        straight_differs k c y x hc hy hx (row_at rows k) (row_at rows' k) (part k us) (part k vs) (places_of k) (places_of k) (places_of k) (places_of k) (raw rows us s t p) (raw rows' vs s' t' q) same
        (reach rows us s t p) (reach rows' vs s' t' q) (λ z. differ (sym (own_sample us) ∙ z ∙ own_sample vs))
        (weights_at k c y x hc hy hx (row_at rows k) (part k us) ∙ e ∙ sym (weights_at k c y x hc hy hx (row_at rows' k) (part k vs)))

    -- in the arenas that `expand` leaves
    pub straight_apart : get_or (straight_arena rows us) (start_of k + straight_place k c y x) nan ≡ get_or (straight_arena rows' vs) (start_of k + straight_place k c y x) nan → ⊥
    straight_apart e = weights_differ (sym (in_straight rows us k c y x hk hc hy hx) ∙ e ∙ in_straight rows' vs k c y x hk hc hy hx)

    pub transposed_apart : get_or (transposed_arena rows us) (start_of k + transposed_place k c y x) nan ≡ get_or (transposed_arena rows' vs) (start_of k + transposed_place k c y x) nan → ⊥
    transposed_apart e = weights_differ (sym (in_transposed rows us k c y x hk hc hy hx) ∙ e ∙ in_transposed rows' vs k c y x hk hc hy hx)

    -- in what lookup shows: straight, transposed, and with no order named
    pub shown_apart : get_or (shown (straight_arena rows us) (transposed_arena rows us) k c Straight) (y * width_of k + x) nan
        ≡ get_or (shown (straight_arena rows' vs) (transposed_arena rows' vs) k c Straight) (y * width_of k + x) nan → ⊥
    shown_apart e = straight_apart (sym (shown_straight rows us k c y x hk hc hy hx) ∙ e ∙ shown_straight rows' vs k c y x hk hc hy hx)

    pub mirror_apart : get_or (shown (straight_arena rows us) (transposed_arena rows us) k c Transposed) (x * height_of k + y) nan
        ≡ get_or (shown (straight_arena rows' vs) (transposed_arena rows' vs) k c Transposed) (x * height_of k + y) nan → ⊥
    mirror_apart e = transposed_apart (sym (shown_transposed rows us k c y x hk hc hy hx) ∙ e ∙ shown_transposed rows' vs k c y x hk hc hy hx)

    pub unnamed_apart : get_or (shown (straight_arena rows us) (transposed_arena rows us) k c Unnamed) (x * height_of k + y) nan
        ≡ get_or (shown (straight_arena rows' vs) (transposed_arena rows' vs) k c Unnamed) (x * height_of k + y) nan → ⊥
    unnamed_apart e = transposed_apart (sym (shown_unnamed rows us k c y x hk hc hy hx) ∙ e ∙ shown_unnamed rows' vs k c y x hk hc hy hx)
