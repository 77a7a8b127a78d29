-- `lanes::raised` is `raised_of`. Assumes nothing.
use Rattle.bands.proofs.LaneRoots.{raised_even, raised_odd}
use Rattle.bands.proofs.lanes.raised.Goals as goal

pub returns-then-b-eq0 : goal.returns-then-b-eq0
returns-then-b-eq0 c = raised_even c.args.b c.if-b-eq0.true

pub returns-else-b-eq0 : goal.returns-else-b-eq0
returns-else-b-eq0 c = raised_odd c.args.b c.if-b-eq0.false
