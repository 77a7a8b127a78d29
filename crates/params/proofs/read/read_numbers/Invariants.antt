-- `params::read::read_numbers` meets its contract: the field that `read_bits` found says which case of `number` holds. The loop's invariant: what is left to read, from the bit and the row in hand, comes to what was to be read. Assumes nothing.
use mathlib.Core.Path.{◌≡◌}
use Prim.Native.Nat.{◌+◌, ◌-◌}
use Rattle.params.specs.Row.{on, numbers}
use Rattle.params.proofs.read.read_numbers.Given as goal

abbrev pub invariant-loop-i : goal.invariant-loop-i
invariant-loop-i l = numbers l.bytes (l.n - l.i) (on l.bit (l.slot + l.i) l.row) ≡ numbers l.bytes l.n (on l.initial.bit l.slot l.initial.row)
