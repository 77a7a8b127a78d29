-- `record::writer::put_parts` meets its contract. Assumes nothing.
use mathlib.Core.Path.{◌≡◌, ap, ◌∙◌}
use Prim.Native.Nat.{ℕ, ◌+◌, ◌-◌, ◌*◌}
use lib.ListN.{get_or, take, drop}
use Rattle.params.specs.Row.{fixed, lists}
use Rattle.record.proofs.KindStores.{parts_stored, counts_part, numbers_slots}
use Rattle.record.proofs.writer.put_parts.Goals as goal

pub returns : goal.returns
returns c =
    let a = c.args in
    let x = c.requires.1 in
    let m : c.from-mode.result ≡ get_or a.row.now 0 0 = c.from-mode.ensures in
    parts_stored a.kind a.row.now a.part.now x (take (1 + lists c.from-mode.result - 1) (drop 1 a.row.now)) (take (3 + c.number_count-last.result - 3) (drop 3 a.row.now)) a.at _ _ _ a.out.now _ _ _
    (ap (λ (m : ℕ). take (1 + lists m - 1) (drop 1 a.row.now)) m ∙ counts_part a.kind a.row.now a.part.now x)
    (numbers_slots a.kind a.row.now a.part.now x _ (c.number_count-last.ensures.0 ∙ ap (λ (m : ℕ). fixed m + 3 * get_or a.row.now 1 0 + 3 * get_or a.row.now 2 0) m))
    c.put_line-p.ensures c.put_line-q.ensures c.put_line.ensures
