-- `own_power::top_chain` meets its contract: antt computes the chain. Assumes nothing.
use Rattle.std.proofs.Common.{refl}
use Rattle.bands.specs.Views.{chain_from}
use Rattle.bands.proofs.own_power.top_chain.Goals as goal

pub returns : goal.returns
unfolding chain_from
returns c = refl
