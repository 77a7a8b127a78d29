-- `record::reader::kinds_at` meets its contract. Assumes nothing.
use mathlib.Core.Path.{◌≡◌}
use Prim.Native.Nat.{◌-◌}
use Rattle.record.proofs.KindPlaces.{Walked}
use Rattle.record.proofs.WalkPlaces.{store}
use Rattle.record.proofs.reader.kinds_at.Given as goal

abbrev pub invariant-loop-kind : goal.invariant-loop-kind
invariant-loop-kind l = (l.text.bytes ≡ l.initial.text.bytes) × Walked store l.initial.text.bytes.now l.initial.text.at 17 (l.initial.rows, l.initial.arena) (l.rows, l.arena) l.kind (17 - l.kind) l.text.at
