-- `lanes::turn_eight`: each lane takes its turn (`Passing`). Assumes nothing.
use Rattle.bands.proofs.InLanes.{passing_lane, passing_more, passing_all, lane_small, lane_turn}
use Rattle.bands.proofs.lanes.turn_eight.Goals as goal

-- what is compared is small
pub over-requires : goal.over-requires
over-requires c = lane_small _ _ _ _ _ c.requires.more (passing_lane _ _ _ _ _ _ _ c.loop-i-test.true c.requires c.loop-i.invariant)

pub loop-i-preserved : goal.loop-i-preserved
loop-i-preserved c =
    let m = c.before.before.before.before.before.before.before in
    let l = m.loop-i in
    passing_more _ _ _ l.root l.rem l.left l.i _ _ _ m.loop-i-test.true m.requires l.invariant
    (λ N n K d. lane_turn N n _ _ _ K d _ _ c.over.ensures c.digit.ensures)

pub returns : goal.returns
returns c = passing_all _ _ _ _ _ _ _ c.loop-i-test.false c.loop-i.invariant

pub digit-requires : goal.digit-requires
digit-requires c = lane_small _ _ _ _ _ c.requires.more (passing_lane _ _ _ _ _ _ _ c.loop-i-test.true c.requires c.loop-i.invariant)
