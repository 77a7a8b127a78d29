-- `short_arena::held::State::remove` meets its contract: the kinds so far but one, and 0 behind them. Assumes nothing.
use Rattle.std.proofs.Common.{arith}
use Rattle.short_arena.proofs.States.{kept_none, kept_same, kept_other}
use Rattle.short_arena.proofs.held.State.remove.Goals as goal
use Rattle.short_arena.proofs.held.State.remove.Goals.{then-k-kind, else-k-kind}

pub loop-k-init : goal.loop-k-init
loop-k-init c = kept_none _ _

pub loop-k-preserved : goal.loop-k-preserved
loop-k-preserved c =
    let p = c.requires in
    let l = c.held-k-items.ensures.count in
    let h = c.loop-k-test.true in
    elim c.if-k-kind.branch [
      | then-k-kind w ↦ rw (w.kinds-is, w.n-is) (kept_other _ _ _ _ _ c.loop-k.invariant h (omega arith) w.if-k-kind.true)
      | else-k-kind w ↦ rw (w.kinds-is, w.n-is) (kept_same _ _ _ _ _ c.loop-k.invariant h w.if-k-kind.false)
    ]
