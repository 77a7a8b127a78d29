-- `params::rows::all_zero` meets its contract: what `all` says of the slice is `all_zero`. Assumes nothing.
use mathlib.Core.Path.{◌∙◌}
use borrow.Author.Rules.{rules}
use borrow.Author.Tests.{tests}
use lib.Dec.{eqb}
use Rattle.std.proofs.lemmas.Iterator.{YieldsList-from_slice}
use Rattle.std.proofs.lemmas.Iterator.Search.{all_from_yields_List}
use Rattle.transform.proofs.ZeroLaws.{zero_all}
use Rattle.params.proofs.rows.all_zero.Goals as goal

pub returns : goal.returns
returns c =
    let part = c.args.part.now in
    all_from_yields_List (λ v. eqb v 0) _ _ _ c.all.ensures.ran (YieldsList-from_slice part cc) (λ x b q k. search (rules, tests)) ∙ zero_all part
