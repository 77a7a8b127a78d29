-- `record::series::items_at` meets its contract: the loop of `ItemPlaces`. Assumes nothing.
use borrow.Author.Rules.{rules}
use Rattle.record.proofs.Readers.{handed}
use Rattle.record.proofs.ItemPlaces.{listed_end, turn_bad, turn_got}
use Rattle.record.proofs.series.items_at.Goals as goal

pub returns-in_err-v : goal.returns-in_err-v
returns-in_err-v g c = turn_bad g.S.Series.any g.S.Series.format _ _ _ _ _ _ _ c.loop-i.invariant.1 _ c.loop-i-test.true _ c.end_of.ensures _ _ (handed _ _ c.from_residual.ensures.1) c.in_err-v.ensures

pub loop-i-preserved : goal.loop-i-preserved
loop-i-preserved g c = (search rules, turn_got g.S.Series.any g.S.Series.format _ _ _ _ _ _ _ c.loop-i.invariant.1 _ c.loop-i-test.true _ c.end_of.ensures _ c.in_ok-v.ensures _ c.store.ensures)

pub returns : goal.returns
returns g c = listed_end g.S.Series.any g.S.Series.format _ _ _ _ _ _ _ c.loop-i.invariant.1 c.loop-i-test.false
