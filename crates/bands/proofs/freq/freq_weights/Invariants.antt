-- `freq::freq_weights`: k by k (`Laid`). Assumes nothing.
use Rattle.bands.specs.Quant.{channel_of}
use Rattle.bands.specs.Freqs.{freq_weight}
use Rattle.bands.specs.Grids.{Laid}
use Rattle.bands.proofs.freq.freq_weights.Given as goal

abbrev pub invariant-loop-k : goal.invariant-loop-k
invariant-loop-k l = Laid (λ c k. freq_weight (channel_of l.numbers 4 c) k) 16 l.k l.all
