-- `numbers::default_value`. Assumes nothing.
use lib.Ieee.{of_bits}
use Rattle.matrix.proofs.Table.{table_at, past}
use Rattle.matrix.proofs.numbers.default_value.Goals as goal

pub returns-then-i-lt51 : goal.returns-then-i-lt51
returns-then-i-lt51 c = table_at c.args.kind c.args.i _ _ c.requires c.if-i-lt51.true

pub returns-else-i-lt51 : goal.returns-else-i-lt51
unfolding of_bits
returns-else-i-lt51 c = past c.args.kind c.args.i c.if-i-lt51.false
