-- `whole_root` is `whole_root`: each turn leaves one digit less to come (`Down`). Assumes nothing.
use Rattle.std.proofs.Common.{◌-◌, ◌^◌}
use Rattle.bands.specs.Views.{Down}
use Rattle.bands.proofs.whole.whole_root.Given as goal

abbrev pub invariant-loop : goal.invariant-loop
invariant-loop l = Down (2 ^ 64) 32 l.x (32 - l.counter) l.rem l.root l.left
