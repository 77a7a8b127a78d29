-- `params::rows::parts_ok` meets its contract: its tests are those of `parts_ok`, in order, and the counts fit a row once they have passed. Assumes nothing.
use mathlib.Core.Path.{sym}
use native.Mathlib.Omega.{arith}
use Rattle.params.proofs.AllowedLaws.{counts_fit, cut_front}
use Rattle.params.proofs.rows.parts_ok.Goals as goal

pub numbers_in-n-requires-clause-d_bound : goal.numbers_in-n-requires-clause-d_bound
numbers_in-n-requires-clause-d_bound c = counts_fit c.args.mode c.args.c c.args.d (sym c.if-not-count_ok.ensures) (sym c.if-not-count_ok-2.ensures)

pub slice_bounds-all_fine-end : goal.slice_bounds-all_fine-end
slice_bounds-all_fine-end c = cut_front _ c.args.slots.now (omega (arith, c.numbers_in-n.ensures, counts_fit c.args.mode c.args.c c.args.d (sym c.if-not-count_ok.ensures) (sym c.if-not-count_ok-2.ensures)))
