-- `short_arena::held::State::remove` meets its contract: the kinds so far but one, and 0 behind them. Assumes nothing.
use Rattle.short_arena.proofs.States.{Kept}
use Rattle.short_arena.proofs.held.State.remove.Given as goal

abbrev pub invariant-loop-k : goal.invariant-loop-k
invariant-loop-k l = Kept l.k-items l.kind l.k-index l.n l.kinds
