-- `record::piece::number_at` meets its contract: reading from the start is reading on from here. Assumes nothing.
use mathlib.Core.Path.{◌≡◌}
use Prim.Native.Nat.{◌-◌, ◌≤◌, ◌<◌}
use lib.ListN.{drop}
use Rattle.record.specs.Number.{number_from}
use Rattle.record.proofs.piece.number_at.Given as goal

abbrev pub invariant-loop-i : goal.invariant-loop-i
invariant-loop-i l =
    (l.text ≡ l.initial.text) × (l.m ≤ l.limit) × (l.end < 48)
    × (number_from l.limit l.end 0 0 (drop l.initial.text.at l.s) ≡ number_from l.limit l.end l.m (l.i - l.initial.text.at) (drop l.i l.s))
