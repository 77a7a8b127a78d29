-- `show_weights::total` meets its contract: the numbers that the items count with are the weights' bits. Assumes nothing.
use Rattle.std.proofs.Common.{rules}
use Rattle.show_weights.proofs.TotalLaws.{total_is}
use Rattle.show_weights.proofs.total.Goals as goal

pub returns : goal.returns
returns c = search (rules, total_is)
