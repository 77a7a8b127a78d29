-- `jpeg::jpeg_reply` meets its contract: what is lent right has a row 0. Assumes nothing.
use mathlib.Core.Path.{sym, ◌∙◌}
use native.Mathlib.Omega.{arith}
use Rattle.dequant.proofs.JpegLaws.{given, row_zero}
use Rattle.dequant.proofs.jpeg.jpeg_reply.Goals as goal

pub slice_bounds-check_row-end : goal.slice_bounds-check_row-end
slice_bounds-check_row-end c =
    let g = given _ _ _ (sym c.jpeg_lent.ensures ∙ c.if-not-jpeg_lent.false) in
    row_zero c.args.rows.now (omega (arith, g.slots))
