-- `record::fixed::mode_at` meets its contract. Assumes nothing.
use borrow.Author.Rules.{rules}
use Rattle.record.proofs.Readers.{handed}
use Rattle.record.proofs.Framed.{framed_bad, framed_got, kind_framed, mode_place, lines_cut}
use Rattle.record.proofs.fixed.mode_at.Goals as goal

pub returns-in_err-fixed_at : goal.returns-in_err-fixed_at
returns-in_err-fixed_at c =
    let a = c.args in
    let e = c.lines_start-start.ensures in
    framed_bad _ _ _ _ _ _ _ (kind_framed a.kind _ _ _ _ _ (mode_place a.kind _ e) c.mode_digit-m.ensures.0 (lines_cut a.kind _ e _ _ (search rules) c.lines-line.ensures)) c.in_err-fixed_at.ensures (handed _ _ c.from_residual.ensures.1)

pub returns : goal.returns
returns c =
    let a = c.args in
    let e = c.lines_start-start.ensures in
    framed_got _ _ _ _ _ (kind_framed a.kind _ _ _ _ _ (mode_place a.kind _ e) c.mode_digit-m.ensures.0 (lines_cut a.kind _ e _ _ (search rules) c.lines-line.ensures)) c.in_ok-fixed_at.ensures
