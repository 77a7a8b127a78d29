-- `distance` is `distance_of`. Assumes nothing.
use Rattle.std.proofs.Common.{ap, ◌∙◌}
use Rattle.bands.specs.Root.{root_of}
use Rattle.bands.specs.Distance.{distance_of}
use Rattle.bands.proofs.spot.distance.Goals as goal

pub returns : goal.returns
unfolding distance_of
returns c = c.root32.ensures ∙ ap root_of c.square_sum.ensures
