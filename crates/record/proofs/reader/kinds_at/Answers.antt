-- `record::reader::kinds_at` meets its contract. Assumes nothing.
use mathlib.Core.Path.{◌∙◌}
use Rattle.record.proofs.Readers.{handed}
use Rattle.record.proofs.WalkPlaces.{kinds_bad, kinds_on, kinds_done}
use Rattle.record.proofs.reader.kinds_at.Goals as goal

pub loop-kind-preserved : goal.loop-kind-preserved
loop-kind-preserved c = let a = c.args in (c.in_ok-row_at.ensures.same ∙ c.loop-kind.invariant.0, kinds_on a.text.now _ a.rows.now a.arena.now _ _ _ c.loop-kind.invariant.0 c.loop-kind.invariant.1 _ _ _ c.loop-kind-test.true c.in_ok-row_at.ensures)

pub returns-in_err-row_at : goal.returns-in_err-row_at
returns-in_err-row_at c =
    let a = c.args in
    kinds_bad a.text.now _ a.rows.now a.arena.now _ _ _ c.loop-kind.invariant.0 c.loop-kind.invariant.1 _ _ _ _ c.loop-kind-test.true (handed _ _ c.from_residual.ensures.1) c.in_err-row_at.ensures c.row_at.new.rows c.row_at.new.arena

pub returns : goal.returns
returns c = let a = c.args in kinds_done a.text.now _ a.rows.now a.arena.now _ _ _ c.loop-kind.invariant.0 c.loop-kind.invariant.1 c.loop-kind-test.false a.text.now.within
