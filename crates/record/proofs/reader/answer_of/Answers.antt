-- `record::reader::answer_of` meets its contract. Assumes nothing.
use mathlib.Core.Path.{ap, ◌∙◌}
use Rattle.std.specs.Prelude.{Err}
use Rattle.std.proofs.lemmas.Result.{err_from_is_err_and}
use Rattle.record.proofs.ReadPlaces.{answer_bad, answer_more, answer_room, answer_done}
use Rattle.record.proofs.reader.answer_of.Goals as goal

pub returns-then-q-text : goal.returns-then-q-text
returns-then-q-text c = answer_more _ _ _ c.in_ok-q.ensures.scanned c.if-q-text.true

pub returns-in_err-q : goal.returns-in_err-q
returns-in_err-q c = let p = err_from_is_err_and c.from_residual.result c.from_residual.ensures.1 in p.1 ∙ ap Err p.2 ∙ answer_bad _ _ _ c.in_err-q.ensures.scanned

pub returns-then-no_room : goal.returns-then-no_room
returns-then-no_room c = answer_room _ _ _ c.in_ok-q.ensures.scanned c.if-q-text.false _ _ _ c.in_ok-q.ensures.stored _ c.no_room.ensures c.if-no_room.true

pub returns : goal.returns
returns c = answer_done _ _ _ c.in_ok-q.ensures.scanned c.if-q-text.false _ _ _ c.in_ok-q.ensures.stored _ c.no_room.ensures c.if-no_room.false
