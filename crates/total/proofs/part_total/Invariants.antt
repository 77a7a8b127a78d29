-- `total::part_total` meets its contract. The loop's invariant: the total is that of the weights before i. Assumes nothing.
use Rattle.std.proofs.Common.{◌≡◌, take}
use Rattle.total.specs.Total.{total_from}
use Rattle.total.proofs.part_total.Given as goal

abbrev pub invariant-loop-i : goal.invariant-loop-i
invariant-loop-i l = l.total ≡ total_from l.first (take l.i l.part)
