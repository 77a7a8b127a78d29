-- `params::rows::any_mode` meets its contract: what `any` says of the kinds. Assumes nothing.
use mathlib.Core.Path.{refl, ◌∙◌}
use mathlib.Core.Bool.{not}
use Prim.Native.Nat.{ℕ}
use borrow.Author.Rules.{rules}
use borrow.Author.Tests.{tests}
use lib.Dec.{eqb}
use Rattle.std.proofs.lemmas.Iterator.{YieldsList-from_range}
use Rattle.std.proofs.lemmas.Iterator.Search.{any_from_yields_List}
use Rattle.transform.proofs.FirstLaws.{any_fails}
use Rattle.params.specs.Allowed.{mode_at}
use Rattle.params.proofs.rows.any_mode.Goals as goal

pub returns : goal.returns
returns c =
    let rows = c.args.rows.now in
    any_from_yields_List (λ (k : ℕ). not (eqb (mode_at rows k) 0)) _ _ _ c.any.ensures.ran (YieldsList-from_range 0 17 17 refl refl) (λ x b q k. search (rules, tests))
    ∙ any_fails _ (λ (k : ℕ). eqb (mode_at rows k) 0) 17 (λ k. refl)
