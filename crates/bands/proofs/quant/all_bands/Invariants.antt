-- `quant::all_bands`: channel by channel (`Channels`). Assumes nothing.
use Rattle.std.proofs.Common.{◌≡◌, length}
use Rattle.bands.specs.Grids.{Channels}
use Rattle.bands.proofs.quant.all_bands.Given as goal

abbrev pub invariant-loop-c : goal.invariant-loop-c
invariant-loop-c l = (length l.all ≡ 48) × Channels l.numbers l.count l.c l.all
