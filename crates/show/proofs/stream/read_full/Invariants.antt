-- `show::stream::read_full` ends: each turn reads a byte or more. What is counted is within the slice.
use Rattle.std.proofs.Common.{length, ◌-◌, ◌≤◌}
use Rattle.show.proofs.stream.read_full.Given as goal

abbrev pub invariant-loop-n : goal.invariant-loop-n
invariant-loop-n g l = l.n ≤ length l.to

abbrev pub decreases-loop-n : goal.decreases-loop-n
decreases-loop-n g l = length l.initial.to - l.n
