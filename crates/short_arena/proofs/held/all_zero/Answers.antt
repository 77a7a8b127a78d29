-- `short_arena::held::all_zero` meets its contract: the library's test of each. Assumes nothing.
use Rattle.std.proofs.Common.{◌∙◌, eqb, rules}
use borrow.Author.Tests.{tests}
use Rattle.std.proofs.lemmas.Iterator.{YieldsList-from_slice}
use Rattle.std.proofs.lemmas.Iterator.Search.{all_from_yields_List}
use Rattle.short_arena.proofs.Turns.{zero_all}
use Rattle.short_arena.proofs.held.all_zero.Goals as goal

pub returns : goal.returns
returns c = all_from_yields_List (λ v. eqb v 0) _ _ _ c.all.ensures.ran (YieldsList-from_slice c.args.l.now cc) (λ x b q k. search (rules, tests)) ∙ zero_all c.args.l.now
