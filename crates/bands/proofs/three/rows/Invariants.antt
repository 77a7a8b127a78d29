-- `three::rows` meets its contract: of each chain what is left of n gives the product of the definition (`Left`). Assumes nothing.
use Rattle.std.proofs.Common.{◌+◌, get_or}
use Rattle.bands.proofs.SetBits.{Left}
use Rattle.bands.proofs.three.rows.Given as goal

abbrev pub invariant-loop-left : goal.invariant-loop-left
invariant-loop-left l = Left (get_or l.t l.at 0) l.n l.initial.a l.a l.left × Left (get_or l.t (l.at + l.step) 0) l.n l.initial.b l.b l.left × Left (get_or l.t (l.at + l.step + l.step) 0) l.n l.initial.c l.c l.left

abbrev pub decreases-loop-left : goal.decreases-loop-left
decreases-loop-left l = l.left
