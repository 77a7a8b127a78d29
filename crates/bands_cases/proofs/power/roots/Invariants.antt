use Rattle.std.proofs.Common.{◌<◌, ◌^◌}
use Rattle.bands_cases.proofs.power.roots.Given as goal

abbrev pub invariant-loop : goal.invariant-loop
invariant-loop g l = l.x < 2 ^ 32
