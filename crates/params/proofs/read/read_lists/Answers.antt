-- `params::read::read_lists` meets its contract: a count of four bits is below 16, so each list has 48 numbers at most. The loop's invariant is as that of `read_numbers`. Assumes nothing.
use mathlib.Core.Path.{sym, ap, ◌∙◌}
use Prim.Native.Nat.{ℕ, ◌+◌, ◌-◌, ◌*◌}
use lib.ListN.{set}
use native.Mathlib.Omega.{arith}
use borrow.Author.Rules.{rules}
use Rattle.std.proofs.lemmas.Result.{err_from_is_err_and}
use Rattle.bitstream.proofs.Laws.{value_lt}
use Rattle.std.specs.Prelude.{Err}
use Rattle.params.specs.declared.read.Fault.TheVariants as fault
use Rattle.params.specs.Row.{on, short, numbers}
use Rattle.params.specs.Steps.{hand}
use Rattle.params.proofs.RowLaws.{list_short, list_on, lists_step, lists_none, lists_fault}
use Rattle.params.proofs.read.read_lists.Goals as goal

pub returns : goal.returns
returns c = let l = c.loop-i in sym (lists_none _ _ l.i _ (search rules)) ∙ l.invariant.1

pub returns-in_err-found : goal.returns-in_err-found
returns-in_err-found c =
    let l = c.loop-i in
    let n = c.args.n in
    let x = c.in_err-found.field-0.0 in
    let p = err_from_is_err_and c.from_residual.result c.from_residual.ensures.1 in
    rw (p.1, p.2)
    (sym (lists_fault _ (n - (l.i + 1)) (1 + (l.i + 1)) (fault.Short x.bit x.lacks) l.row)
    ∙ lists_step _ n l.i (on l.bit l.slot l.row) (short x.bit x.lacks) _ (search rules) (sym (list_short _ _ _ _ _ x (search rules))) l.invariant.1)

pub overflow_add-count : goal.overflow_add-count
overflow_add-count c = omega (arith, value_lt c.args.bytes.now c.loop-i.bit 4 c.in_ok-found.found (search rules))

pub read_numbers-requires : goal.read_numbers-requires
read_numbers-requires c =
    omega (arith, c.loop-i.invariant.0, c.loop-i-test.true, c.requires, c.from.ensures, value_lt c.args.bytes.now c.loop-i.bit 4 c.in_ok-found.found (search rules))

pub returns-in_err-then : goal.returns-in_err-then
returns-in_err-then c =
    let l = c.loop-i in
    let n = c.args.n in
    let x = c.in_err-then.field-0.0 in
    let row = c.read_numbers.new.row in
    let p = err_from_is_err_and c.from_residual-in_err-then.result c.from_residual-in_err-then.ensures.1 in
    rw (p.1, p.2)
    (sym (lists_fault _ (n - (l.i + 1)) (1 + (l.i + 1)) x row)
    ∙ lists_step _ n l.i (on l.bit l.slot l.row) (hand (Err x) row) _ (search rules)
    (c.in_err-then.ensures.row_after ∙ ap (λ (m : ℕ). numbers c.args.bytes.now (3 * m) (on c.in_ok-found.found.next l.slot (set l.row (1 + l.i) (c.in_ok-found.found.value + 1)))) c.from.ensures
    ∙ sym (list_on _ _ _ _ _ c.in_ok-found.found (search rules)))
    l.invariant.1)

pub loop-i-preserved : goal.loop-i-preserved
loop-i-preserved c =
    let l = c.loop-i in
    let f = c.in_ok-found.found in
    let then = c.in_ok-then.then in (
      omega (arith, c.in_ok-then.ensures.result_bound, l.invariant.0, c.from.ensures, value_lt c.args.bytes.now c.loop-i.bit 4 c.in_ok-found.found (search rules)),
      lists_step _ c.args.n l.i (on l.bit l.slot l.row) (on then.bit then.slot c.read_numbers.new.row) _ (search rules)
          (c.in_ok-then.ensures.row_after ∙ ap (λ (m : ℕ). numbers c.args.bytes.now (3 * m) (on f.next l.slot (set l.row (1 + l.i) (f.value + 1)))) c.from.ensures
          ∙ sym (list_on _ _ _ _ _ f (search rules)))
          l.invariant.1,
    )
