-- `outputs::turn_line` meets its contract. The invariant: the first y places of the line are those of the column. Assumes nothing.
use Rattle.std.proofs.Common.{◌≡◌, ◌+◌, ◌*◌, get_or}
use lib.Seq.{sets}
use lib.Ieee.{nan}
use Rattle.bands.specs.Table.{tab}
use Rattle.matrix.specs.Mirror.{turned}
use Rattle.matrix.proofs.outputs.turn_line.Given as goal

abbrev pub invariant-loop-y : goal.invariant-loop-y
invariant-loop-y l = l.transposed ≡ sets l.initial.transposed (l.l * l.h) (tab l.y (λ k. get_or l.straight (turned l.w l.h (l.l * l.h + k)) nan))
