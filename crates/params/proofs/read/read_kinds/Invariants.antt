-- `params::read::read_kinds` meets its contract. The loop's invariant: what is left to read, from the bit and the rows in hand, comes to what was to be read. Assumes nothing.
use mathlib.Core.Path.{◌≡◌}
use Prim.Native.Nat.{◌-◌}
use Rattle.std.specs.Prelude.{Ok}
use Rattle.params.specs.declared.read.Stop.TheVariants.{Done}
use Rattle.params.specs.Header.{gives, kinds}
use Rattle.params.proofs.read.read_kinds.Given as goal

abbrev pub invariant-loop-kind : goal.invariant-loop-kind
invariant-loop-kind l = kinds l.bytes (17 - l.kind) l.kind (gives (Ok (Done l.bit)) l.rows) ≡ kinds l.bytes (17 - l.first) l.first (gives (Ok (Done l.initial.bit)) l.initial.rows)
