-- `record::fixed::header_at` meets its contract. Assumes nothing.
use Rattle.record.proofs.Readers.{handed}
use Rattle.record.proofs.Framed.{framed_bad, framed_got, first_framed}
use Rattle.record.proofs.fixed.header_at.Goals as goal

pub returns-in_err-fixed_at : goal.returns-in_err-fixed_at
returns-in_err-fixed_at c = framed_bad _ _ _ _ _ _ _ (first_framed _ _ _ _ c.flag_at-d.ensures.0 c.first_line-line.ensures) c.in_err-fixed_at.ensures (handed _ _ c.from_residual.ensures.1)

pub returns : goal.returns
returns c = framed_got _ _ _ _ _ (first_framed _ _ _ _ c.flag_at-d.ensures.0 c.first_line-line.ensures) c.in_ok-fixed_at.ensures
