-- `three::powers` meets its contract: the first rows are in the range that the second start from. Assumes nothing.
use Rattle.std.proofs.Common.{◌≡◌, ℕ, ◌+◌, refl, arith}
use Rattle.bands.proofs.Tables.{ready_starts}
use Rattle.bands.proofs.three.powers.Goals as goal

-- where the chains of the second and the third channel start
second_chain : (at : ℕ) → at + 1 + 34 ≡ at + 34 + 1
second_chain at = omega arith

third_chain : (at : ℕ) → at + 1 + 34 + 34 ≡ at + 34 + 34 + 1
third_chain at = omega arith

pub finish_three-requires-clause-starts : goal.finish_three-requires-clause-starts
finish_three-requires-clause-starts c =
    let t = c.args.t.now in
    let at = c.args.at in
    let p = c.requires in
    let N = c.ranges.n.fits in
    let r = c.rows.ensures in
    (ready_starts t at _ p.1 refl _ _ N r.0, ready_starts t (at + 34) _ p.2 (second_chain at) _ _ N r.1, ready_starts t (at + 34 + 34) _ p.3 (third_chain at) _ _ N r.2)
