-- `list::lay_bands`: band after band (`Filling`). Assumes nothing.
use Rattle.std.proofs.Common.{length}
use Rattle.bands.specs.Bands.{at_of}
use Rattle.bands.proofs.Sound.{Filling}
use Rattle.bands.proofs.list.lay_bands.Given as goal

abbrev pub invariant-loop-i : goal.invariant-loop-i
invariant-loop-i l = Filling (at_of l.numbers) (length l.numbers) l.initial.all l.at l.i l.last l.all
