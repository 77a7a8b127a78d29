-- `record::writer::write_record` meets its contract. Assumes nothing.
use mathlib.Core.Path.{ap, ◌∙◌}
use Rattle.std.specs.Prelude.{Err}
use Rattle.std.proofs.lemmas.Result.{err_from_is_err_and}
use Rattle.record.proofs.SetStores.{write_lent, write_row, checked, write_done}
use borrow.Author.Rules.{rules}
use Rattle.record.proofs.writer.write_record.Goals as goal

pub invariant_of-description : goal.invariant_of-description
invariant_of-description c = let a = c.args in record { checked = checked a.rows.now a.samples.now a.buffer.now _ c.is_lent.ensures (search rules) c.in_ok-check_rows.ensures c.type_inv.rows }

pub returns-then-is_lent : goal.returns-then-is_lent
returns-then-is_lent c = let a = c.args in let o = write_lent a.rows.now a.samples.now a.buffer.now _ c.is_lent.ensures (search rules) in record { answer = o.0; buffer = o.1 }

pub returns-in_err-check_rows : goal.returns-in_err-check_rows
returns-in_err-check_rows c =
    let a = c.args in
    let p = err_from_is_err_and c.from_residual.result c.from_residual.ensures.1 in
    let o = write_row a.rows.now a.samples.now a.buffer.now _ c.is_lent.ensures (search rules) c.in_err-check_rows.field-0.0 c.in_err-check_rows.ensures in
    record { answer = p.1 ∙ ap Err p.2 ∙ o.0; buffer = o.1 }

pub returns : goal.returns
returns c = let a = c.args in let o = write_done a.rows.now a.samples.now a.buffer.now _ c.is_lent.ensures (search rules) c.in_ok-check_rows.ensures _ _ c.write_allowed.ensures.answer c.write_allowed.ensures.buffer in record { answer = o.0; buffer = o.1 }
