-- `chain::half` is the whole root of 2 ^ 31 times a number near 2 ^ 31. Assumes nothing.
use Rattle.bands.proofs.ChainRoots.{half_some, half_none}
use Rattle.bands.proofs.chain.half.Goals as goal

pub returns-then-k-gt0 : goal.returns-then-k-gt0
returns-then-k-gt0 c = half_some _ c.requires.0 c.requires.1 c.if-k-gt0.true

pub returns-else-k-gt0 : goal.returns-else-k-gt0
returns-else-k-gt0 c = half_none _ c.requires.0 c.if-k-gt0.false
