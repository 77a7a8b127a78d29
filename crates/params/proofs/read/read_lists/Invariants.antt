-- `params::read::read_lists` meets its contract: a count of four bits is below 16, so each list has 48 numbers at most. The loop's invariant is as that of `read_numbers`. Assumes nothing.
use mathlib.Core.Path.{◌≡◌}
use Prim.Native.Nat.{◌≤◌, ◌+◌, ◌-◌, ◌*◌}
use Rattle.params.specs.Row.{on, band_lists}
use Rattle.params.proofs.read.read_lists.Given as goal

abbrev pub invariant-loop-i : goal.invariant-loop-i
invariant-loop-i l =
    (l.slot ≤ l.initial.slot + 48 * l.i) × (band_lists l.bytes (l.n - l.i) (1 + l.i) (on l.bit l.slot l.row) ≡ band_lists l.bytes l.n 1 (on l.initial.bit l.initial.slot l.initial.row))
