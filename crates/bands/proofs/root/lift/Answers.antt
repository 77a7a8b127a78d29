-- `lift` meets its contract: `Lifting` is its invariant. Assumes nothing.
use Rattle.bands.proofs.Lift.{start, turn}
use Rattle.bands.proofs.root.lift.Goals as goal

pub loop-n-init : goal.loop-n-init
loop-n-init c = start c.args.m c.args.e c.requires.1 c.requires.2

pub loop-n-preserved : goal.loop-n-preserved
loop-n-preserved c = turn c.args.m c.args.e c.loop-n.n c.loop-n.h c.requires.0 c.loop-n-test.true c.loop-n.invariant
