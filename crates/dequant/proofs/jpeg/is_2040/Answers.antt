-- `jpeg::is_2040` meets its contract. Assumes nothing.
use lib.Ieee.{of_bits}
use Rattle.dequant.proofs.Rounds.{rounds_high, rounds_low}
use Rattle.dequant.proofs.jpeg.is_2040.Goals as goal

pub returns-then-x : goal.returns-then-x
unfolding of_bits
returns-then-x c = rounds_high c.args.x c.if-x.true

pub returns-else-x : goal.returns-else-x
unfolding of_bits
returns-else-x c = rounds_low c.args.x c.if-x.false
