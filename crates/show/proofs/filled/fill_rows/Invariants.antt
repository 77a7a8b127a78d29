-- The first j numbers are in their places.
use Rattle.std.proofs.Common.{◌≡◌, ◌/◌, ◌%◌}
use Rattle.show.specs.Input.{word_at}
use Rattle.show.specs.Filled.{stored}
use Rattle.show.proofs.filled.fill_rows.Given as goal

abbrev pub invariant-loop-j : goal.invariant-loop-j
invariant-loop-j l = l.rows ≡ stored (λ j. word_at l.list j / 65536) (λ j. word_at l.list j % 65536) l.j l.initial.rows
