-- `record::writer::Description::put_kinds` meets its contract. Assumes nothing.
use Prim.Native.Nat.{◌≤◌, ◌<◌, ◌-◌}
use Rattle.record.proofs.SetStores.{Emitted}
use Rattle.record.proofs.writer.Description.put_kinds.Given as goal

abbrev pub invariant-loop-kind : goal.invariant-loop-kind
invariant-loop-kind l = (l.kind ≤ 17) × (l.at < 100) × Emitted l.self.rows.now l.self.samples.now l.initial.out l.at l.out l.kind l.p

abbrev pub decreases-loop-kind : goal.decreases-loop-kind
decreases-loop-kind l = 17 - l.kind
