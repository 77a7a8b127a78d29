-- `quant::of_kind`: kind by kind. Assumes nothing.
use Rattle.std.proofs.Common.{refl, ◌∙◌, rules, tests}
use Rattle.std.proofs.lemmas.Iterator.{YieldsList-from_range}
use Rattle.std.proofs.lemmas.Iterator.Search.{any_from_yields_List}
use Rattle.bands.specs.Quant.{kind_is}
use Rattle.bands.proofs.LentLaws.{any_kind}
use Rattle.bands.proofs.quant.of_kind.Goals as goal

pub returns : goal.returns
returns c =
    let a = c.args in
    any_from_yields_List (λ k. kind_is k a.w a.h) _ _ _ c.any.ensures.ran (YieldsList-from_range 0 17 17 refl refl) (λ x b q k. search (rules, tests))
    ∙ any_kind a.w a.h 17
