-- `grid::copied`: up to x the columns of row y are copied (`Copied`). Assumes nothing.
use Rattle.std.proofs.Common.{◌≡◌, ◌*◌, length}
use Rattle.bands.specs.Grids.{Copied}
use Rattle.bands.proofs.grid.copied.Given as goal

abbrev pub invariant-loop-x : goal.invariant-loop-x
invariant-loop-x l = (length l.out ≡ 3 * (l.fn.sides.w * l.fn.sides.w)) × Copied l.fn.sides.w l.fn.sides.h l.y l.x l.initial.out l.out
