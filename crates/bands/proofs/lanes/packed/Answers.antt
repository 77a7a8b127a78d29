-- `lanes::packed` is the rounded root, where the bits are those of a normal float. Assumes nothing.
use Rattle.std.proofs.Common.{le_of_lt}
use Rattle.bands.proofs.Patterns.{no_nan}
use Rattle.bands.proofs.LaneRoots.{packed_small, root_packed}
use Rattle.bands.proofs.lanes.packed.Goals as goal

pub float_from_bits-result : goal.float_from_bits-result
float_from_bits-result c = no_nan _ (le_of_lt (packed_small c.args.b c.args.root c.requires.0 c.requires.1))

pub returns : goal.returns
returns c = λ h e. root_packed c.args.b c.args.root c.requires.0 h e
