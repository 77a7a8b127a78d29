-- `record::reader::walk` meets its contract. Assumes nothing.
use mathlib.Core.Path.{refl, ◌∙◌}
use native.Mathlib.Omega.{arith}
use Rattle.record.proofs.Readers.{handed}
use Rattle.record.proofs.WalkPlaces.{walk_default, walk_kinds, walk_head, stood, stopped}
use Rattle.record.proofs.reader.walk.Goals as goal

pub returns-in_err-d : goal.returns-in_err-d
returns-in_err-d c =
    let a = c.args in
    let x = walk_head _ _ a.rows.now a.rows.now a.arena.now a.arena.now _ _ refl c.in_err-d.ensures in
    record { scanned = handed _ _ c.from_residual.ensures.1 ∙ stopped _ _ x.answer; stored = x.stored }

pub returns-then-d-eq1 : goal.returns-then-d-eq1
returns-then-d-eq1 c =
    let a = c.args in
    let x = walk_default _ _ a.rows.now _ a.arena.now _ c.in_ok-d.d c.in_ok-d.ensures c.if-d-eq1.true c.requires c.put_default.ensures refl in
    record { scanned = stood _ _ x.answer; stored = x.stored }

pub returns-in_err-kinds_at : goal.returns-in_err-kinds_at
returns-in_err-kinds_at c =
    let a = c.args in
    let u = c.header_at.new.text in
    let x = walk_kinds _ u a.rows.now _ a.arena.now _ c.in_ok-d.d c.in_ok-d.ensures _ _ (omega arith) u.within c.if-d-eq1.false c.requires c.in_err-kinds_at.ensures in
    record { scanned = handed _ _ c.from_residual-in_err-kinds_at.ensures.1 ∙ stopped _ _ x.answer; stored = x.stored }

pub returns : goal.returns
returns c =
    let a = c.args in
    let u = c.header_at.new.text in
    let x = walk_kinds _ u a.rows.now _ a.arena.now _ c.in_ok-d.d c.in_ok-d.ensures _ _ (omega arith) u.within c.if-d-eq1.false c.requires c.in_ok-kinds_at.ensures in
    record { scanned = stood _ _ x.answer; stored = x.stored }
