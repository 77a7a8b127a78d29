-- `grid::positions`: up to x, a multiple of 8, each position is there (`Placing`). Assumes nothing.
use Rattle.std.proofs.Common.{◌-◌}
use Rattle.bands.proofs.Cells.{Placing}
use Rattle.bands.proofs.grid.positions.Given as goal

abbrev pub invariant-loop-x : goal.invariant-loop-x
invariant-loop-x l = Placing l.from l.y l.count l.sides.w l.sides.h l.all l.x

abbrev pub decreases-loop-x : goal.decreases-loop-x
decreases-loop-x l = l.sides.w - l.x
