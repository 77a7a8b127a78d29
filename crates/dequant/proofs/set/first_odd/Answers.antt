-- `set::first_odd` meets its contract: the kind that `find` gives is the first whose row is raw with such a denominator. Assumes nothing.
use mathlib.Core.Path.{refl, sym, ap, ◌∙◌}
use mathlib.Core.Bool.{not-not}
use mathlib.Core.List.{List}
use Prim.Native.Nat.{ℕ, ◌+◌, ◌-◌, ◌*◌}
use lib.ListN.{take, drop}
use borrow.Author.Rules.{rules}
use borrow.Author.Tests.{tests}
use Rattle.std.proofs.lemmas.Iterator.{YieldsList-from_range}
use Rattle.std.proofs.lemmas.Iterator.Adapters.{option_map_id}
use Rattle.std.proofs.lemmas.Iterator.Search.{find_from_yields_List}
use Rattle.transform.proofs.FirstLaws.{find_fails}
use Rattle.transform.proofs.PartLaws.{cut_at}
use Rattle.params.specs.Allowed.{row_at}
use Rattle.matrix.specs.Raw.{odd_row}
use Rattle.dequant.specs.Set.{denom_fault}
use Rattle.dequant.proofs.Lent.{not_odd}
use Rattle.dequant.proofs.set.first_odd.Goals as goal

-- the part that is handed on
abbrev part : List ℕ → ℕ → List ℕ
part rows k = take (k * 128 + 128 - k * 128) (drop (k * 128) rows)

pub returns : goal.returns
unfolding denom_fault
returns c =
    let rows = c.args.rows.now in
    sym (option_map_id c.find.result)
    ∙ find_from_yields_List (λ (k : ℕ). odd_row (part rows k)) _ _ c.find.result c.find.ensures.ran (YieldsList-from_range 0 17 17 refl refl) (λ x b q k. search (rules, tests))
    ∙ find_fails _ (not_odd rows) 17 (λ k. ap odd_row (cut_at (k * 128) 128 rows) ∙ sym (not-not (odd_row (row_at rows k))))
