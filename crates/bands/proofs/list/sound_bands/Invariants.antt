-- `list::sound_bands`: band after band (`Sounding`). Assumes nothing.
use Rattle.std.proofs.Common.{length}
use Rattle.bands.specs.Bands.{at_of}
use Rattle.bands.proofs.Sound.{Sounding}
use Rattle.bands.proofs.list.sound_bands.Given as goal

abbrev pub invariant-loop-i : goal.invariant-loop-i
invariant-loop-i l = Sounding (at_of l.numbers) (length l.numbers) l.i l.last
