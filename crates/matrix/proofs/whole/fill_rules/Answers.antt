-- `whole::fill_rules` by its two cases. Assumes nothing.
use Rattle.std.proofs.Common.{◌≤◌, arith}
use Rattle.matrix.proofs.Ruled.{whole_grid}
use Rattle.matrix.proofs.whole.fill_rules.Goals as goal

pub fill_bands-requires : goal.fill_bands-requires
fill_bands-requires c =
    let a = c.args in
    let r = c.requires.0 in
    let m : 6 ≤ a.n.now.mode = c.if-n-lt6.false in
    (r.shaped.few, r.sound0, whole_grid a.n.now a.kind _ _ _ r (omega arith) c.width.ensures c.height.ensures c.requires.1)
