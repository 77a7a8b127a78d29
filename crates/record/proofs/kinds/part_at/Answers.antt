-- `record::kinds::part_at` meets its contract. Assumes nothing.
use native.Mathlib.Omega.{arith}
use Rattle.record.proofs.PartPlaces.{part_all, part_fits}
use Rattle.record.proofs.kinds.part_at.Goals as goal

pub line_at-requires : goal.line_at-requires
line_at-requires c = let a = c.args in omega (arith, part_fits a.kind a.mode _ c.sample_count-n.ensures, c.arena_start.ensures)

pub returns : goal.returns
returns c = let a = c.args in part_all _ _ a.kind a.mode _ _ a.arena.now _ _ c.sample_count-n.ensures c.arena_start.ensures c.line_at.ensures
