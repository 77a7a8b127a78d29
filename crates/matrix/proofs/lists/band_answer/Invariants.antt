-- `lists::band_answer`: channel after channel. Assumes nothing.
use Rattle.std.proofs.Common.{◌≡◌, Ok}
use Rattle.matrix.specs.Expanded.{band_answer}
use Rattle.matrix.proofs.lists.band_answer.Given as goal

abbrev pub invariant-loop-c : goal.invariant-loop-c
invariant-loop-c l = band_answer l.n l.kind l.c ≡ Ok tt
