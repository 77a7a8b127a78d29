-- `lanes::digits_eight`: as many digits of each root are to come as turns (`Coming`). Assumes nothing.
use Rattle.std.proofs.Common.{◌-◌}
use Rattle.bands.proofs.InLanes.{Coming}
use Rattle.bands.proofs.lanes.digits_eight.Given as goal

abbrev pub invariant-loop : goal.invariant-loop
invariant-loop l = Coming l.n l.initial.so_far l.initial.beyond l.initial.next l.so_far l.beyond l.next (l.n - l.counter)
