-- `record::writer::Description::put_kind` meets its contract. Assumes nothing.
use Prim.Native.Nat.{◌+◌, ◌≤◌}
use mathlib.Core.Path.{◌≡◌}
use Rattle.record.proofs.SetStores.{kind_long, kind_mode, kind_few, kind_room, kind_part, kind_put}
use native.Mathlib.Omega.{arith}
use lib.ListN.{length}
use borrow.Author.Rules.{rules}
use Rattle.record.proofs.writer.Description.put_kind.Goals as goal

pub bounds-self-from : goal.bounds-self-from
bounds-self-from c = let a = c.args in let l : length a.self.rows.now ≡ 2176 = kind_long a.self.rows.now a.self.samples.now a.self.checked in search rules

pub put_mode-p-requires : goal.put_mode-p-requires
put_mode-p-requires c = let a = c.args in (search rules, (search rules, omega (arith, c.from-mode.ensures, kind_mode a.self.rows.now a.self.samples.now a.self.checked c.requires.1.1 a.kind c.requires.1.0)))

pub overflow_add-stop : goal.overflow_add-stop
overflow_add-stop c = let a = c.args in record { fits = omega (arith, kind_few a.self.rows.now a.self.samples.now a.self.checked c.requires.1.1 a.kind c.requires.1.0 _ c.from-mode.ensures _ _ c.part_start-start.ensures c.sample_count.ensures) }

pub slice_bounds-put_parts-end : goal.slice_bounds-put_parts-end
slice_bounds-put_parts-end c = let a = c.args in let l : length a.self.rows.now ≡ 2176 = kind_long a.self.rows.now a.self.samples.now a.self.checked in search rules

pub offset_bounds-self-start : goal.offset_bounds-self-start
offset_bounds-self-start c = let a = c.args in record { fits = omega (arith, kind_few a.self.rows.now a.self.samples.now a.self.checked c.requires.1.1 a.kind c.requires.1.0 _ c.from-mode.ensures _ _ c.part_start-start.ensures c.sample_count.ensures) }

pub slice_bounds-put_parts-end-2 : goal.slice_bounds-put_parts-end-2
slice_bounds-put_parts-end-2 c = let a = c.args in let m : c.part_start-start.result + c.sample_count.result ≤ length a.self.samples.now = kind_room a.self.rows.now a.self.samples.now a.self.checked c.requires.1.1 a.kind c.requires.1.0 _ c.from-mode.ensures _ _ c.part_start-start.ensures c.sample_count.ensures in search rules

pub put_parts-requires : goal.put_parts-requires
put_parts-requires c = let a = c.args in (omega (arith, c.put_mode-p.ensures.short), kind_part a.self.rows.now a.self.samples.now a.self.checked c.requires.1.1 a.kind c.requires.1.0 _ c.from-mode.ensures _ _ c.part_start-start.ensures c.sample_count.ensures)

pub returns : goal.returns
returns c = let a = c.args in kind_put a.self.rows.now a.self.samples.now a.self.checked c.requires.1.1 a.kind c.requires.1.0 _ c.from-mode.ensures _ _ c.part_start-start.ensures c.sample_count.ensures a.out.now _ _ a.at _ _ c.put_mode-p.ensures c.put_parts.ensures
