-- The cases before case i are replayed; i goes no further than one past the last.
use Rattle.std.proofs.Common.{◌+◌, ◌-◌, ◌≤◌}
use Rattle.show.specs.Input.{word_at}
use Rattle.show.specs.Runs.{Replayed}
use Rattle.show.proofs.cases.run_cases.Given as goal

abbrev pub invariant-loop-i : goal.invariant-loop-i
invariant-loop-i g l = record {
  before : Replayed g.C.Replay.leaves l.input (l.i - 1) (g.W.Write.contents l.initial.out) (g.W.Write.contents l.out);
  within : l.i ≤ word_at l.input 0 + 1;
}
