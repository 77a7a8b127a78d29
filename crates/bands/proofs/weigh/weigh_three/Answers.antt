-- `weigh::weigh_three` is `between` of each channel. Assumes nothing.
use Rattle.std.proofs.Common.{◌≡◌, ℕ, ◌+◌, ◌*◌, ◌<◌, ◌≤◌, List, sym, ap, ◌∙◌, subst, arith, lit<}
use lib.Ieee.{Float, binary32, div}
use Rattle.bands.specs.Bands.{at_of}
use Rattle.bands.specs.Position.{index_of}
use Rattle.bands.specs.Views.{segment_of, band_in}
use Rattle.bands.specs.ChainTable.{Holds, Held, ratio_at}
use Rattle.bands.specs.Weights.{segment_weight, between}
use Rattle.bands.specs.declared.spot.Segment.{Segment}
use Rattle.bands.proofs.Cells.{segment_between}
use Rattle.bands.proofs.Tables.{held_at}
use Rattle.bands.proofs.weigh.weigh_three.Goals as goal

-- channel k: what the table has of its ratio, and the weight in its segment
module _ (l : List Float) (n : ℕ) (t : List ℕ) (few : n ≤ 16) (h : Held l n t) (k i at : ℕ) (K : k < 3) (p : Float) (I : i ≡ index_of p) (in_List : i + 1 < n) (A : at ≡ i * 102 + k * 34) (s : Segment) (e : s ≡ segment_of l (k * 16) p) where
  ratio : Holds t at (div binary32 s.b s.a)
  ratio =
      subst (λ (z : Segment). Holds t at (div binary32 z.b z.a)) (sym e)
      (subst (λ (j : ℕ). Holds t at (ratio_at (at_of l) (k * 16 + j))) I (held_at l n t k i at K in_List A h))

  weight : (w : Float) → w ≡ segment_weight s.a s.b s.fraction → w ≡ between (band_in l k) p
  weight w q = q ∙ ap (λ (z : Segment). segment_weight z.a z.b z.fraction) e ∙ segment_between l k p

pub returns : goal.returns
returns c =
    let a = c.args in
    let x = c.index-i in
    let r = c.interpolate_three.ensures in (
      weight a.lists.bands.now a.lists.count a.lists.t.now a.lists.few a.lists.held 0 x.result (x.result * 102) (lit< tt) a.p x.ensures.0 x.ensures.1 (omega arith) _ c.cut_at.ensures _ r.0,
      weight a.lists.bands.now a.lists.count a.lists.t.now a.lists.few a.lists.held 1 x.result (x.result * 102 + 34) (lit< tt) a.p x.ensures.0 x.ensures.1 (omega arith) _ c.cut_at-2.ensures _ r.1,
      weight a.lists.bands.now a.lists.count a.lists.t.now a.lists.few a.lists.held 2 x.result (x.result * 102 + 34 + 34) (lit< tt) a.p x.ensures.0 x.ensures.1 (omega arith) _ c.cut_at-3.ensures _ r.2,
    )

pub interpolate_three-requires-clause-at_bound : goal.interpolate_three-requires-clause-at_bound
interpolate_three-requires-clause-at_bound c =
    let a = c.args in
    let x = c.index-i in (
      omega (arith, x.ensures.1, a.lists.few),
      ratio a.lists.bands.now a.lists.count a.lists.t.now a.lists.few a.lists.held 0 x.result _ (lit< tt) a.p x.ensures.0 x.ensures.1 (omega arith) _ c.cut_at.ensures,
      ratio a.lists.bands.now a.lists.count a.lists.t.now a.lists.few a.lists.held 1 x.result _ (lit< tt) a.p x.ensures.0 x.ensures.1 (omega arith) _ c.cut_at-2.ensures,
      ratio a.lists.bands.now a.lists.count a.lists.t.now a.lists.few a.lists.held 2 x.result _ (lit< tt) a.p x.ensures.0 x.ensures.1 (omega arith) _ c.cut_at-3.ensures,
    )
