-- `own_power::row` meets its contract: what is left of n, from z on, gives the product of the definition (`Left`). Assumes nothing.
use Rattle.std.proofs.Common.{arith}
use Rattle.bands.proofs.SetBits.{left_none, left_less}
use Rattle.bands.proofs.Tables.{links_of, link_on, link_fits}
use Rattle.bands.proofs.own_power.row.Goals as goal
use Rattle.bands.proofs.own_power.row.Goals.{In-loop-left}

pub loop-left-smaller : goal.loop-left-smaller
loop-left-smaller c = left_less _ _ _ _ _ c.loop-left.invariant c.loop-left-test.true

pub returns : goal.returns
returns c = left_none _ _ _ _ _ c.loop-left-test.false c.loop-left.invariant

pub overflow_mul-z : goal.overflow_mul-z
overflow_mul-z c = let y = c.requires.y_nonzero in record { fits = link_fits c.args.roots.now 0 _ _ _ _ _ (omega arith) (links_of _ c.requires.chain) c.loop-left.invariant c.loop-left-test.true y.0 y.1 y.2 }

pub loop-left-preserved : goal.loop-left-preserved
loop-left-preserved c = link_on c.args.roots.now 0 _ _ _ _ _ (omega arith) (links_of _ c.requires.chain) c.loop-left.invariant c.loop-left-test.true
