-- `grid::fill_many`: row by row (`Laid`), where a square grid has copied columns (`Copied`). Assumes nothing.
use Rattle.std.proofs.Common.{◌*◌}
use Rattle.bands.specs.Grids.{grid_cell, Laid}
use Rattle.bands.proofs.grid.fill_many.Given as goal

abbrev pub invariant-loop-y : goal.invariant-loop-y
invariant-loop-y l = Laid (grid_cell l.bands l.count l.sides.w l.sides.h) (l.sides.w * l.sides.h) (l.y * l.sides.w) l.out
