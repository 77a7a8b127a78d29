-- `raw::any_raw` meets its contract: what `any` says of the kinds is `any_raw`. Assumes nothing.
use mathlib.Core.Path.{refl, ◌∙◌}
use borrow.Author.Rules.{rules}
use borrow.Author.Tests.{tests}
use Rattle.std.proofs.lemmas.Iterator.{YieldsList-from_range}
use Rattle.std.proofs.lemmas.Iterator.Search.{any_from_yields_List}
use Rattle.params.specs.Raw.{is_raw}
use Rattle.params.proofs.RawLaws.{any_is}
use Rattle.params.proofs.raw.any_raw.Goals as goal

pub returns : goal.returns
returns c =
    let rows = c.args.rows.now in
    any_from_yields_List (is_raw rows) _ _ _ c.any.ensures.ran (YieldsList-from_range 0 17 17 refl refl) (λ x b q k. search (rules, tests)) ∙ any_is rows
