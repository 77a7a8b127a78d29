-- `three::put_starts`: exponents and starts of the ratios before p are there (`Starting`). Assumes nothing.
use Rattle.std.proofs.Common.{◌≡◌, ℕ, ◌+◌, ◌-◌, ◌*◌, ◌<◌, arith}
use Rattle.bands.proofs.Tables.{starting_none, starting_more}
use Rattle.bands.proofs.three.put_starts.Goals as goal
use Rattle.bands.proofs.three.put_starts.Goals.{In-loop-p}

more : (p n e : ℕ) → e ≡ n * 3 - 3 → p < e → p + 3 < n * 3
more p n e q h = omega arith

pub loop-p-init : goal.loop-p-init
loop-p-init c = starting_none _ _ _ c.requires.0 c.requires.1

pub loop-p-preserved : goal.loop-p-preserved
loop-p-preserved c =
    let k = c.before in
    let a = k.before in
    let m = a.before.before.before in
    let e = a.start_of-q.ensures in
    starting_more _ _ _ _ _ _ _ _ _ _ (more _ _ _ m.saturating_sub-p-end.ensures m.loop-p-test.true) m.requires.0 m.loop-p.invariant e.0 e.1 _ k.counted-n.ensures _ c.across-band.ensures
