-- `quant::band_answer`: channel by channel. Assumes nothing.
use Rattle.std.proofs.Common.{◌≡◌, Ok}
use Rattle.bands.specs.Quant.{band_answer}
use Rattle.bands.proofs.quant.band_answer.Given as goal

abbrev pub invariant-loop-c : goal.invariant-loop-c
invariant-loop-c l = band_answer l.numbers l.count l.c ≡ Ok tt
