-- `bands::bars` is `barred`: the second of its tests. Assumes nothing.
use Rattle.std.proofs.Common.{Bool, false, ◌||◌, sym, ap}
use lib.Ieee.{inf, le, of_bits}
use Rattle.bands.specs.Bands.{barred}
use Rattle.bands.proofs.list.bars.Goals as goal

pub returns-else-b : goal.returns-else-b
unfolding barred of_bits
returns-else-b c = sym (ap (λ (t : Bool). t || le (inf false) c.args.b) c.if-b.false)
