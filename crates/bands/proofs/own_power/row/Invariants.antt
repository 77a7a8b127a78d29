-- `own_power::row` meets its contract: what is left of n, from z on, gives the product of the definition (`Left`). Assumes nothing.
use Rattle.std.proofs.Common.{get_or}
use Rattle.bands.proofs.SetBits.{Left}
use Rattle.bands.proofs.own_power.row.Given as goal

abbrev pub invariant-loop-left : goal.invariant-loop-left
invariant-loop-left l = Left (get_or l.roots 0 0) l.n l.y l.z l.left

abbrev pub decreases-loop-left : goal.decreases-loop-left
decreases-loop-left l = l.left
