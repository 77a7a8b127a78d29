-- `record::kinds::parts_at` meets its contract. Assumes nothing.
use Rattle.record.proofs.Readers.{handed}
use Rattle.record.proofs.PartPlaces.{parts_bands, parts_numbers, parts_all}
use Rattle.record.proofs.kinds.parts_at.Goals as goal

pub returns-in_err-line_at : goal.returns-in_err-line_at
returns-in_err-line_at c = let a = c.args in parts_bands _ _ a.kind a.mode a.row.now _ a.arena.now _ _ _ _ (handed _ _ c.from_residual.ensures.1) c.in_err-line_at.ensures

pub returns-in_err-line_at-2 : goal.returns-in_err-line_at-2
returns-in_err-line_at-2 c = let a = c.args in parts_numbers _ _ a.kind a.mode a.row.now _ a.arena.now _ c.requires.1 _ c.in_ok-line_at.ensures _ c.number_count-n.ensures.0 _ _ _ _ (handed _ _ c.from_residual-in_err-line_at-2.ensures.1) c.in_err-line_at-2.ensures

pub returns : goal.returns
returns c = let a = c.args in parts_all _ _ a.kind a.mode a.row.now _ a.arena.now _ c.requires.1 _ c.in_ok-line_at.ensures _ c.number_count-n.ensures.0 _ _ _ c.in_ok-line_at-2.ensures c.part_at.ensures
