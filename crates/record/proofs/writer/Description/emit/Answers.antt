-- `record::writer::Description::emit` meets its contract. Assumes nothing.
use native.Mathlib.Omega.{arith}
use Rattle.record.proofs.SetStores.{kind_long, flag_small, emit_default, emit_kinds}
use Rattle.record.proofs.writer.Description.emit.Goals as goal

pub bounds-self-126 : goal.bounds-self-126
bounds-self-126 c = let a = c.args in omega (arith, kind_long a.self.rows.now a.self.samples.now a.self.checked)

pub put_header-p-requires : goal.put_header-p-requires
put_header-p-requires c = let a = c.args in flag_small a.self.rows.now a.self.samples.now a.self.checked

pub returns-then-flag-eq1 : goal.returns-then-flag-eq1
returns-then-flag-eq1 c = let a = c.args in emit_default a.self.rows.now a.self.samples.now a.out.now _ _ c.if-flag-eq1.true c.put_header-p.ensures

pub returns : goal.returns
returns c = let a = c.args in emit_kinds a.self.rows.now a.self.samples.now a.out.now _ _ _ _ c.if-flag-eq1.false c.put_header-p.ensures c.put_kinds.ensures
