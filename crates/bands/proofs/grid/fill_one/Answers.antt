-- `grid::fill_one`: each channel's part is filled (`Fills`). Assumes nothing.
use Rattle.std.proofs.Common.{◌≡◌, length, get_or, take, drop, ◌++◌, replicate, ◌+◌, ◌-◌, ◌*◌, le_refl, rules}
use borrow.Rule.Slice.PartMut.{put_mid, mid_of}
use lib.Ieee.{nan}
use Rattle.bands.specs.Views.{band_in}
use Rattle.bands.specs.Grids.{grid_cell, grid_of}
use Rattle.bands.proofs.Cells.{cell_one, area_pos}
use Rattle.bands.proofs.Laid.{laid_all}
use Rattle.bands.proofs.Fills.{fills_laid}
use Rattle.bands.proofs.grid.fill_one.Goals as goal

pub returns : goal.returns
unfolding grid_of
returns c =
    let s = c.args.sides.w * c.args.sides.h in
    let o = c.args.out.now in
    let l = c.args.bands.now in
    let x = c.fill.new.self in
    let y = c.fill-2.new.self in
    let X : x ≡ replicate (length (take s o)) (get_or l 0 nan) = search rules in
    let Y : y ≡ replicate (length (mid_of s (s + s - s) (x ++ drop s o))) (get_or l 16 nan) = search rules in
    let Z : c.fill-3.new.self ≡ replicate (length (mid_of (s + s) (length (put_mid s (s + s - s) (x ++ drop s o) y) - (s + s)) (put_mid s (s + s - s) (x ++ drop s o) y))) (get_or l 32 nan) = search rules in
    let f = grid_cell l 1 c.args.sides.w c.args.sides.h in
    laid_all f s s _ (area_pos _ _ c.args.sides.wide.0 c.args.sides.high.0) (le_refl s)
    (fills_laid o x y c.fill-3.new.self s _ _ _ c.requires X Y Z f (λ j. cell_one (band_in l 0) _ _ _ _) (λ j. cell_one (band_in l 1) _ _ _ _) (λ j. cell_one (band_in l 2) _ _ _ _))
