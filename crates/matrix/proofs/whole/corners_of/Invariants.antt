-- `whole::corners_of`: channel after channel. Assumes nothing.
use Rattle.std.proofs.Common.{◌≡◌}
use Rattle.matrix.proofs.Corners.{laid}
use Rattle.matrix.proofs.whole.corners_of.Given as goal

abbrev pub invariant-loop-c : goal.invariant-loop-c
invariant-loop-c l = l.all ≡ laid l.n l.c
