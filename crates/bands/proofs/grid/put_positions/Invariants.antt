-- `grid::put_positions`: the first i of eight columns are laid (`Laying`). Assumes nothing.
use Rattle.std.proofs.Common.{◌-◌}
use Rattle.bands.proofs.ColumnLaws.{Laying}
use Rattle.bands.proofs.grid.put_positions.Given as goal

abbrev pub invariant-loop-i : goal.invariant-loop-i
invariant-loop-i l = Laying l.x l.y l.count (l.fn.sides.w - 1) (l.fn.sides.h - 1) l.initial.all l.all l.i
