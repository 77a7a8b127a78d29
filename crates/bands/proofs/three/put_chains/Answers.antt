-- `three::put_chains`: j numbers of each of eight chains are laid (`Linking`). Assumes nothing.
use Rattle.bands.proofs.Tables.{linking_none, linking_more, linking_near}
use Rattle.bands.proofs.three.put_chains.Goals as goal

pub loop-j-init : goal.loop-j-init
loop-j-init c = linking_none _ _ _ c.requires.0 c.requires.2

pub next_eight-next-requires : goal.next_eight-next-requires
next_eight-next-requires c =
    let m = c.before.before.before.before in
    let p = m.requires in
    linking_near _ _ _ p.0 p.2 _ _ _ p.1 m.loop-j.invariant

pub loop-j-preserved : goal.loop-j-preserved
loop-j-preserved c =
    let m = c.before.before.before.before.before in
    let p = m.requires in
    linking_more _ _ _ p.0 p.2 _ _ _ _ _ m.loop-j-test.true m.loop-j.invariant c.put_eight.ensures c.next_eight-next.ensures
