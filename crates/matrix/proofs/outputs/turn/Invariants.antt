-- `outputs::turn` meets its contract. The invariant: the first l lines are the straight columns that they show. Assumes nothing.
use Rattle.std.proofs.Common.{◌≡◌, ◌*◌, get_or}
use lib.Seq.{sets}
use lib.Ieee.{nan}
use Rattle.bands.specs.Table.{tab}
use Rattle.matrix.specs.Mirror.{turned}
use Rattle.matrix.proofs.outputs.turn.Given as goal

abbrev pub invariant-loop-l : goal.invariant-loop-l
invariant-loop-l l = l.transposed ≡ sets l.initial.transposed 0 (tab (l.l * l.h) (λ p. get_or l.straight (turned l.w l.h p) nan))
