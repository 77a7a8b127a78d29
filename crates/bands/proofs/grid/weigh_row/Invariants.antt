-- `grid::weigh_row`: place by place (`Laid`). Assumes nothing.
use Rattle.std.proofs.Common.{◌+◌, ◌*◌, ◌≤◌}
use Rattle.bands.specs.Grids.{grid_cell, Laid}
use Rattle.bands.proofs.grid.weigh_row.Given as goal

abbrev pub invariant-loop-x : goal.invariant-loop-x
invariant-loop-x l = let s = l.fn.sides in (l.from ≤ l.x) × (l.x ≤ s.w) × Laid (grid_cell l.lists.bands.now l.lists.count s.w s.h) (s.w * s.h) (l.y * s.w + l.x) l.out
