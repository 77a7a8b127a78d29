-- `three::chains`: every ratio has its chain, or waits for it among those from p on (`Holding`). Assumes nothing.
use Rattle.std.proofs.Common.{◌-◌}
use Rattle.bands.proofs.Tables.{Holding}
use Rattle.bands.proofs.three.chains.Given as goal

abbrev pub invariant-loop-p : goal.invariant-loop-p
invariant-loop-p l = Holding l.bands l.count l.n l.at l.p l.all

abbrev pub decreases-loop-p : goal.decreases-loop-p
decreases-loop-p l = l.n - l.p
