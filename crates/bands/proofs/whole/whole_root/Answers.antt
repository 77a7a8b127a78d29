-- `whole_root` is `whole_root`: each turn leaves one digit less to come (`Down`). Assumes nothing.
use Rattle.std.proofs.Common.{◌^◌, ltb, refl, arith, lit<, lit≤}
use Rattle.bands.proofs.BringDown.{brings, fourfold, byte, turn, fewer, down_end}
use Rattle.bands.proofs.whole.whole_root.Goals as goal

pub loop-preserved : goal.loop-preserved
loop-preserved c =
    let l = c.loop in
    fewer _ _ _ _ _ _ _ _ (turn (2 ^ 64) (2 ^ 62) 31 _ _ _ _ _ refl (lit< tt) (lit≤ tt) (omega arith) l.invariant _ _ c.over-rem.ensures (byte (ltb (fourfold (2 ^ 64) l.root) (brings (2 ^ 64) (2 ^ 62) l.rem l.left))))

pub returns : goal.returns
returns c = down_end _ _ _ _ _ (omega arith) c.loop.invariant
