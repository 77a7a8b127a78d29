-- `record::reader::read_record` meets its contract. Assumes nothing.
use lib.ListN.{length}
use mathlib.Core.Path.{sym, ap, ◌∙◌}
use Rattle.std.specs.Prelude.{Err}
use Rattle.std.proofs.lemmas.Result.{err_from_is_err_and}
use Rattle.record.proofs.ReadPlaces.{lent_long, read_lent_lem, read_other, read_done}
use Rattle.record.proofs.reader.read_record.Goals as goal

pub walk-requires : goal.walk-requires
walk-requires c = let a = c.args in lent_long (length a.rows.now) (length a.samples.now) (sym c.if-is_lent.false ∙ c.is_lent.ensures)

pub returns-then-is_lent : goal.returns-then-is_lent
returns-then-is_lent c = let a = c.args in let o = read_lent_lem a.rows.now a.samples.now a.text.now _ c.is_lent.ensures c.if-is_lent.true in record { answer = o.0; rows = o.1.0; samples = o.1.1 }

pub returns-in_err-answer_of : goal.returns-in_err-answer_of
returns-in_err-answer_of c =
    let a = c.args in
    let p = err_from_is_err_and c.from_residual.result c.from_residual.ensures.1 in
    let o = read_other a.rows.now a.samples.now a.text.now _ c.is_lent.ensures c.if-is_lent.false c.in_err-answer_of.field-0.0 c.in_err-answer_of.ensures in
    record { answer = p.1 ∙ ap Err p.2 ∙ o.0; rows = o.1.0; samples = o.1.1 }

pub returns : goal.returns
returns c = let a = c.args in let o = read_done a.rows.now a.samples.now a.text.now _ c.is_lent.ensures c.if-is_lent.false c.in_ok-answer_of.ensures _ _ c.walk.ensures.stored in record { answer = o.0; rows = o.1.0; samples = o.1.1 }
