-- `params::rows::row_fault` meets its contract: its tests are those of `row_fault`, and the kind that `find` gives is the first whose row is not allowed. Assumes nothing.
use mathlib.Core.Path.{◌≡◌, refl, sym, ap, ◌∙◌}
use mathlib.Core.Bool.{false, not}
use mathlib.Core.List.{List}
use Prim.Native.Nat.{ℕ, ◌+◌, ◌-◌, ◌*◌}
use lib.ListN.{take, drop}
use borrow.Author.Rules.{rules}
use borrow.Author.Tests.{tests}
use Rattle.std.proofs.lemmas.Iterator.{YieldsList-from_range}
use Rattle.std.proofs.lemmas.Iterator.Adapters.{option_map_id}
use Rattle.std.proofs.lemmas.Iterator.Search.{find_from_yields_List}
use Rattle.transform.proofs.FirstLaws.{find_fails}
use Rattle.transform.proofs.PartLaws.{cut_at}
use Rattle.params.specs.Allowed.{row_allowed, row_at, flag_fault}
use Rattle.params.proofs.FaultLaws.{flag_none, flag_mode, fault_flag, fault_rows}
use Rattle.params.proofs.rows.row_fault.Goals as goal
use Rattle.params.proofs.rows.row_fault.Goals.{else-rows-eq1-via-then-rows-eq1+else-any_mode, else-rows-eq1-via-else-rows-eq1}

-- the part that is handed on
abbrev part : List ℕ → ℕ → List ℕ
part rows k = take (k * 128 + 128 - k * 128) (drop (k * 128) rows)

pub returns-then-any_mode : goal.returns-then-any_mode
returns-then-any_mode c = let e = fault_flag c.args.rows.now (flag_mode _ _ c.if-rows-eq1.true c.if-any_mode.ensures) in rw e

pub returns : goal.returns
returns c =
    let rows = c.args.rows.now in
    let flag : flag_fault rows ≡ false =
    elim c.else-rows-eq1.branch [
      | else-rows-eq1-via-then-rows-eq1+else-any_mode w ↦ flag_mode _ _ w.if-rows-eq1.true w.if-any_mode.ensures
      | else-rows-eq1-via-else-rows-eq1 w ↦ flag_none _ w.if-rows-eq1.false
    ] in
    rw (fault_rows rows flag)
    (sym (option_map_id c.find.result)
    ∙ find_from_yields_List (λ (k : ℕ). not (row_allowed k (part rows k))) _ _ c.find.result c.find.ensures.ran (YieldsList-from_range 0 17 17 refl refl) (λ x b q k. search (rules, tests))
    ∙ find_fails _ (λ (k : ℕ). row_allowed k (row_at rows k)) 17 (λ k. ap (λ (l : List ℕ). not (row_allowed k l)) (cut_at (k * 128) 128 rows)))
