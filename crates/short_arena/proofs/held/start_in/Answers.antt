-- `short_arena::held::start_in` meets its contract: the places of those before the first place at which the kind stands. Assumes nothing.
use Rattle.std.proofs.Common.{eqb, rules}
use borrow.Author.Tests.{tests}
use Rattle.std.proofs.lemmas.Iterator.{YieldsList-from_slice}
use Rattle.std.proofs.lemmas.Iterator.Search.{position_from_yields_List}
use Rattle.short_arena.proofs.Turns.{start_none, start_some}
use Rattle.short_arena.proofs.held.start_in.Goals as goal

pub returns-in_err-i : goal.returns-in_err-i
returns-in_err-i c = rw c.from_residual.ensures (start_none c.args.held.now c.args.kind c.position.result (position_from_yields_List (λ j. eqb j c.args.kind) _ _ c.position.result c.position.ensures.ran (YieldsList-from_slice _ c.iter.ensures.rest) (λ x b q k. search (rules, tests))) c.in_err-i.was)

pub returns : goal.returns
returns c = start_some c.args.held.now c.args.kind c.position.result c.in_ok-i.i _ (position_from_yields_List (λ j. eqb j c.args.kind) _ _ c.position.result c.position.ensures.ran (YieldsList-from_slice _ c.iter.ensures.rest) (λ x b q k. search (rules, tests))) c.in_ok-i.was c.places_in.ensures
