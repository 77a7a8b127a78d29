-- `capi::state::put_state` meets its contract. The loop's invariant: i kinds are copied behind the first byte. Assumes nothing.
use Rattle.std.proofs.Common.{◌≡◌}
use lib.Seq.{paste}
use Rattle.capi.proofs.state.put_state.Given as goal

abbrev pub invariant-loop-i : goal.invariant-loop-i
invariant-loop-i l = l.bytes ≡ paste l.initial.bytes 1 l.k-items l.i
