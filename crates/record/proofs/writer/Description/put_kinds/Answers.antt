-- `record::writer::Description::put_kinds` meets its contract. Assumes nothing.
use borrow.Author.Rules.{rules}
use native.Mathlib.Omega.{arith}
use Rattle.record.proofs.SetStores.{emitted_start, emitted_on, emitted_all, emitted_length}
use Rattle.record.proofs.writer.Description.put_kinds.Goals as goal

pub loop-kind-init : goal.loop-kind-init
loop-kind-init c = let a = c.args in (search rules, search rules, emitted_start a.self.rows.now a.self.samples.now a.out.now a.at)

pub put_kind-p-requires : goal.put_kind-p-requires
put_kind-p-requires c = (omega (arith, c.loop-kind.invariant.2.short, c.loop-kind-test.true), (search rules, c.requires.1))

pub loop-kind-preserved : goal.loop-kind-preserved
loop-kind-preserved c = let a = c.args in (search rules, search rules, emitted_on a.self.rows.now a.self.samples.now a.out.now a.at _ _ _ c.loop-kind.invariant.2 c.loop-kind-test.true _ _ c.put_kind-p.ensures)

pub shape_of-out : goal.shape_of-out
shape_of-out c = let a = c.args in emitted_length a.self.rows.now a.self.samples.now a.out.now a.at _ _ _ c.loop-kind.invariant.2

pub returns : goal.returns
returns c = let a = c.args in emitted_all a.self.rows.now a.self.samples.now a.out.now a.at _ _ _ c.loop-kind.invariant.2 c.loop-kind-test.false (search rules)
