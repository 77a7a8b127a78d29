-- `weigh::interpolate_three` is `segment_weight` of each segment: n is one, since the fractions are. Assumes nothing.
use Rattle.std.proofs.Common.{◌≡◌, ℕ, ◌+◌, List, sym, refl, ap, ◌∙◌}
use lib.Ieee.{Float, binary32, mul, div}
use lib.Ieee.Fits.{div-fits}
use Rattle.bands.specs.Power.{P}
use Rattle.bands.specs.ChainTable.{Holds, Ready, power_in}
use Rattle.bands.specs.Weights.{steps_of, segment_weight}
use Rattle.bands.specs.declared.spot.Segment.{Segment}
use Rattle.bands.proofs.Tables.{holds_ready, holds_power}
use Rattle.bands.proofs.weigh.interpolate_three.Goals as goal

-- one channel
ready : (l : List ℕ) (at : ℕ) (s : Segment) → Holds l at (div binary32 s.b s.a) → Ready l at
ready l at s k = holds_ready l at (div binary32 s.b s.a) (div-fits binary32 s.b s.a) k

weight : (l : List ℕ) (at n : ℕ) (s : Segment) (f v : Float) → Holds l at (div binary32 s.b s.a) → n ≡ steps_of f → s.fraction ≡ f → v ≡ power_in l at n → mul binary32 s.a v ≡ segment_weight s.a s.b s.fraction
unfolding segment_weight
weight l at n s f v k N F e = ap (mul binary32 s.a) (e ∙ holds_power l at (div binary32 s.b s.a) (div-fits binary32 s.b s.a) k n ∙ ap (P (div binary32 s.b s.a)) (N ∙ ap steps_of (sym F)))

pub powers-p-requires : goal.powers-p-requires
powers-p-requires c =
    let a = c.args in
    let k = c.requires.at_bound in
    (k.0, ready a.t.now a.at a.s.a k.1, ready a.t.now (a.at + 34) a.s.b k.2, ready a.t.now (a.at + 34 + 34) a.s.c k.3)

pub returns : goal.returns
returns c =
    let d = c in
    let a = d.args in
    let f = d.requires.fraction in
    let k = d.requires.at_bound in
    let n = d.steps.ensures in
    let p = d.powers-p.ensures in (
      weight a.t.now a.at _ a.s.a _ _ k.1 n refl p.0,
      weight a.t.now (a.at + 34) _ a.s.b _ _ k.2 n f.1 p.1,
      weight a.t.now (a.at + 34 + 34) _ a.s.c _ _ k.3 n f.2 p.2,
    )
