-- `small::mode1_at` at place 0. Assumes nothing.
use Rattle.std.proofs.Common.{arith}
use Rattle.std.proofs.lemmas.Grind.{common_steps}
use lib.Ieee.{of_bits}
use Rattle.matrix.specs.Weight.{mode1}
use Rattle.matrix.proofs.small.mode1_at.Goals as goal

pub returns-in-0 : goal.returns-in-0
unfolding mode1 of_bits
returns-in-0 c = grind (arith, common_steps)
