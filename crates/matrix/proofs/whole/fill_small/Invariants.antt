-- `whole::fill_small`: place by place. Assumes nothing.
use Rattle.std.proofs.Common.{◌≡◌, ◌/◌, ◌%◌}
use lib.Seq.{sets}
use Rattle.bands.specs.Table.{tab}
use Rattle.matrix.specs.Weight.{rule}
use Rattle.matrix.proofs.whole.fill_small.Given as goal

abbrev pub invariant-loop-p : goal.invariant-loop-p
invariant-loop-p l = l.out ≡ sets l.initial.out 0 (tab l.p (λ p. rule l.n l.kind (p / 64) (p % 64 / 8) (p % 64 % 8) l.n.mode))
