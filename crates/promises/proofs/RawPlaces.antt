-- The place theorem of one kind: two raw rows of one denominator, both expanded; where a sample of magnitude up to 8,388,607 differs, the weights differ
-- at its place, straight and transposed, and the larger magnitude has the strictly larger weight. Document 01's range, -65,535 to 65,535, lies within. Assumes nothing.
use mathlib.Core.Path.{◌≡◌, sym, ap, ◌∙◌}
use mathlib.Core.Bool.{false}
use mathlib.Core.List.{List, [], ◌∷◌}
use Prim.Native.Nat.{ℕ, ◌+◌, ◌*◌, ◌^◌, ◌≤◌, ◌<◌}
use native.Mathlib.Nat.{lt_of_le_of_lt}
use lib.Dec.{T, lit<}
use lib.IntN.{ℤ, pos, nat_abs}
use lib.ListN.{get_or}
use lib.Ieee.{Float, nan, lt}
use Rattle.transform.specs.Kinds.{width_of, height_of}
use Rattle.bitstream.specs.Half.{half}
use Rattle.matrix.specs.Mirror.{mirror, straight_place, transposed_place}
use Rattle.matrix.specs.Raw.{weight_of, refused}
use Rattle.matrix.specs.Weight.{weights_of}
use Rattle.matrix.specs.Expanded.{reply_of, expand_answer}
use Rattle.promises.proofs.Distinct.{half_coarse, larger, distinct}
use Rattle.matrix.proofs.Said.{raw_at}
use Rattle.promises.proofs.Places.{weights_at, mirror_at, not_refused}

-- a raw kind that is expanded, and a place of it
pub record Raw (k : ℕ) (row : List ℕ) (zs : List ℤ) (s t : ℕ) : Type 0 where
  pub raw : get_or row 0 0 ≡ 7
  pub done : reply_of (expand_answer k row zs s t) ≡ 0 ∷ []

module _ (k c y x : ℕ) (hc : c < 3) (hy : y < height_of k) (hx : x < width_of k) where
  abbrev sample_at : List ℤ → ℤ
  sample_at zs = get_or zs (straight_place k c y x) (pos 0)

  pub raw_straight : (row : List ℕ) (zs : List ℤ) → get_or row 0 0 ≡ 7
      → get_or (weights_of row zs k) (straight_place k c y x) nan ≡ weight_of (half (get_or row 3 0)) (sample_at zs)
  raw_straight row zs e = weights_at k c y x hc hy hx row zs ∙ raw_at row zs k c (y * width_of k + x) e

  raw_accepted : (row : List ℕ) (zs : List ℤ) (s t : ℕ) → Raw k row zs s t → refused (weight_of (half (get_or row 3 0)) (sample_at zs)) ≡ false
  raw_accepted row zs s t r = sym (ap refused (raw_straight row zs r.raw)) ∙ not_refused k row zs s t r.done c y x hc hy hx

  -- two of them, of one denominator
  module _ (row row' : List ℕ) (us vs : List ℤ) (s t s' t' : ℕ) (p : Raw k row us s t) (q : Raw k row' vs s' t') (same : get_or row 3 0 ≡ get_or row' 3 0) where
    d : Float
    d = half (get_or row 3 0)

    second_accepted : refused (weight_of d (sample_at vs)) ≡ false
    unfolding d
    second_accepted = ap (λ (h : ℕ). refused (weight_of (half h) (sample_at vs))) same ∙ raw_accepted row' vs s' t' q

    first_accepted : refused (weight_of d (sample_at us)) ≡ false
    unfolding d
    first_accepted = raw_accepted row us s t p

    second_straight : get_or (weights_of row' vs k) (straight_place k c y x) nan ≡ weight_of d (sample_at vs)
    unfolding d
    second_straight = raw_straight row' vs q.raw ∙ ap (λ (h : ℕ). weight_of (half h) (sample_at vs)) (sym same)

    apart : nat_abs (sample_at us) < 2 ^ 23 → nat_abs (sample_at vs) < 2 ^ 23 → (sample_at us ≡ sample_at vs → ⊥) → weight_of d (sample_at us) ≡ weight_of d (sample_at vs) → ⊥
    unfolding d
    apart ha hb n e = distinct (half (get_or row 3 0)) (sample_at us) (sample_at vs) (half_coarse (get_or row 3 0)) ha hb first_accepted second_accepted n e

    pub straight_differs : nat_abs (sample_at us) < 2 ^ 23 → nat_abs (sample_at vs) < 2 ^ 23 → (sample_at us ≡ sample_at vs → ⊥)
        → get_or (weights_of row us k) (straight_place k c y x) nan ≡ get_or (weights_of row' vs k) (straight_place k c y x) nan → ⊥
    unfolding d
    straight_differs ha hb n e = apart ha hb n (sym (raw_straight row us p.raw) ∙ e ∙ second_straight)

    pub transposed_differs : nat_abs (sample_at us) < 2 ^ 23 → nat_abs (sample_at vs) < 2 ^ 23 → (sample_at us ≡ sample_at vs → ⊥)
        → get_or (mirror k (weights_of row us k)) (transposed_place k c y x) nan ≡ get_or (mirror k (weights_of row' vs k)) (transposed_place k c y x) nan → ⊥
    transposed_differs ha hb n e =
        straight_differs ha hb n (sym (mirror_at k c y x hc hy hx (weights_of row us k)) ∙ e ∙ mirror_at k c y x hc hy hx (weights_of row' vs k))

    pub straight_grows : nat_abs (sample_at us) < nat_abs (sample_at vs) → nat_abs (sample_at vs) < 2 ^ 23
        → T (lt (get_or (weights_of row us k) (straight_place k c y x) nan) (get_or (weights_of row' vs k) (straight_place k c y x) nan))
    unfolding d
    straight_grows h top =
        rw (raw_straight row us p.raw, second_straight)
        (larger (half (get_or row 3 0)) (sample_at us) (sample_at vs) (half_coarse (get_or row 3 0)) h top first_accepted second_accepted)

-- document 01's range of samples
pub in_range : {n : ℕ} → n ≤ 65535 → n < 2 ^ 23
in_range h = lt_of_le_of_lt h (lit< tt)
