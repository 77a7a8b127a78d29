-- `grid::fill_many`: row by row (`Laid`), where a square grid has copied columns (`Copied`). Assumes nothing.
use Rattle.std.proofs.Common.{◌*◌, le_trans, le_of_eq, mul-le-mul_right, mul_comm}
use Rattle.bands.specs.Grids.{grid_cell, grid_of}
use Rattle.bands.proofs.Laid.{laid_all}
use Rattle.bands.proofs.Cells.{area_pos}
use Rattle.bands.proofs.Mirror.{mirrored}
use Rattle.bands.proofs.Tables.{blank}
use Rattle.bands.proofs.grid.fill_many.Goals as goal

pub chains-requires : goal.chains-requires
chains-requires c = (c.requires.1, blank)

pub returns : goal.returns
unfolding grid_of
returns c =
    let a = c.args in
    let l = c.loop-y in
    laid_all (grid_cell a.bands.now a.count a.sides.w a.sides.h) (a.sides.w * a.sides.h) (l.y * a.sides.w) l.out
    (area_pos a.sides.w a.sides.h a.sides.wide.0 a.sides.high.0) (le_trans (le_of_eq (mul_comm a.sides.w a.sides.h)) (mul-le-mul_right a.sides.w c.loop-y-test.false)) l.invariant

pub weigh_row-requires-clause-laid : goal.weigh_row-requires-clause-laid
weigh_row-requires-clause-laid c = let a = c.args in c.copied-from.ensures.1.lays (grid_cell a.bands.now a.count a.sides.w a.sides.h) (mirrored a.bands.now a.count a.sides.w a.sides.h) c.loop-y.invariant
