-- `freq::freq_position`. Assumes nothing.
use Rattle.bands.proofs.Freqs.{freq_position_lem}
use Rattle.bands.proofs.freq.freq_position.Goals as goal

pub returns : goal.returns
returns c = freq_position_lem c.args.k _ c.requires
