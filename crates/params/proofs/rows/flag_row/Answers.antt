-- `params::rows::flag_row` meets its contract: its tests are those of `flag_row`, in order. Assumes nothing.
use mathlib.Core.Path.{sym, ap, ◌∙◌}
use native.Mathlib.Omega.{arith}
use borrow.Author.Rules.{rules}
use Rattle.std.proofs.lemmas.List.{take_rest}
use Rattle.transform.specs.Zeros.{all_zero}
use Rattle.params.proofs.AllowedLaws.{cut_front}
use Rattle.params.proofs.FaultLaws.{flag_behind}
use Rattle.params.proofs.rows.flag_row.Goals as goal

pub slice_bounds-all_zero-end : goal.slice_bounds-all_zero-end
slice_bounds-all_zero-end c = cut_front 126 c.args.row.now (omega arith)

pub returns-then-all_zero : goal.returns-then-all_zero
returns-then-all_zero c =
    c.all_zero-then-all_zero.ensures ∙ ap all_zero (take_rest c.args.row.now 127) ∙ flag_behind _ (search rules) (search rules) (sym c.if-all_zero.ensures)
