-- `params::rows::all_fine` meets its contract: what `all` says of the slice is `all_fine`. Assumes nothing.
use mathlib.Core.Path.{◌∙◌}
use mathlib.Core.Bool.{not}
use borrow.Author.Rules.{rules}
use borrow.Author.Tests.{tests}
use Rattle.std.proofs.lemmas.Iterator.{YieldsList-from_slice}
use Rattle.std.proofs.lemmas.Iterator.Search.{all_from_yields_List}
use Rattle.bitstream.specs.Half.{barred}
use Rattle.params.proofs.AllowedLaws.{fine_all}
use Rattle.params.proofs.rows.all_fine.Goals as goal

pub returns : goal.returns
returns c =
    let part = c.args.part.now in
    all_from_yields_List (λ v. not (barred v)) _ _ _ c.all.ensures.ran (YieldsList-from_slice part cc) (λ x b q k. search (rules, tests)) ∙ fine_all part
