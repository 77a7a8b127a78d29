-- `params::read::put_default` meets its contract: what `fill` leaves is 2,176 zeros. Assumes nothing.
use borrow.Author.Rules.{rules}
use Rattle.params.proofs.read.put_default.Goals as goal

pub returns : goal.returns
returns c = rw (c.fill.ensures.after (λ y e. search rules), c.requires)
