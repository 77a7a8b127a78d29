-- `lists::list_of`: the first j numbers stand in front. Assumes nothing.
use Rattle.std.proofs.Common.{◌≡◌}
use lib.Seq.{sets}
use Rattle.bands.specs.Table.{tab}
use Rattle.matrix.specs.Numbers.{band_number}
use Rattle.matrix.proofs.lists.list_of.Given as goal

abbrev pub invariant-loop-j : goal.invariant-loop-j
invariant-loop-j l = l.numbers ≡ sets l.initial.numbers 0 (tab l.j (band_number l.n l.l))
