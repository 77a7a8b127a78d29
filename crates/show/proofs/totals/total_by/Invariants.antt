-- The sums are those of the items behind the ones that are left.
use Rattle.show.proofs.TotalLaws.{Behind}
use Rattle.show.proofs.totals.total_by.Given as goal

abbrev pub invariant-loop-item : goal.invariant-loop-item
invariant-loop-item g l = Behind g.N.Numbers.number l.items l.item-iterator.iter.rest.now l.running l.sum
