-- `outputs::finish` by its two answers. Assumes nothing.
use Rattle.std.proofs.Common.{arith}
use Rattle.transform.proofs.Laws.{width_le, area_le}
use Rattle.matrix.proofs.Lasts.{high, places_is, area_is}
use Rattle.matrix.proofs.outputs.finish.Goals as goal

pub turn-requires : goal.turn-requires
turn-requires c =
    let k = c.args.kind in
    let p = places_is k in
    let w = area_is k c.width.result c.height.result c.width.ensures c.height.ensures in
    let l = area_le k in
    let wide = width_le k in
    let tall = high k c.requires.0 in
    (omega arith, omega arith, omega arith, omega arith, omega arith)
