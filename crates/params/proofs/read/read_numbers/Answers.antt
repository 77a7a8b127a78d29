-- `params::read::read_numbers` meets its contract: the field that `read_bits` found says which case of `number` holds. The loop's invariant: what is left to read, from the bit and the row in hand, comes to what was to be read. Assumes nothing.
use mathlib.Core.Path.{◌≡◌, sym, ap, ◌∙◌}
use Prim.Native.Nat.{ℕ, ◌+◌, ◌-◌}
use native.Mathlib.Omega.{arith}
use borrow.Author.Rules.{rules}
use lib.ListN.{set}
use Rattle.std.proofs.lemmas.Result.{err_from_is_err_and}
use Rattle.params.specs.Row.{on, short, float}
use Rattle.params.proofs.RowLaws.{number_short, number_float, number_on, numbers_short, numbers_float, numbers_step, numbers_none}
use Rattle.params.proofs.read.read_numbers.Goals as goal

pub loop-i-preserved : goal.loop-i-preserved
loop-i-preserved c =
    let l = c.loop-i in
    let slot = c.args.place.slot in
    let f = c.in_ok-found.found in
    let s : slot + (l.i + 1) ≡ slot + l.i + 1 = omega arith in
    numbers_step _ c.args.n l.i (on l.bit (slot + l.i) l.row) (on f.next (slot + (l.i + 1)) (set l.row (slot + l.i) f.value)) _ (search rules)
    (ap (λ (k : ℕ). on f.next k (set l.row (slot + l.i) f.value)) s
    ∙ sym (number_on _ _ _ _ f (search rules) c.if-value-eq31.false))
    l.invariant

pub returns-in_err-found-clause-row_after : goal.returns-in_err-found-clause-row_after
returns-in_err-found-clause-row_after c =
    let l = c.loop-i in
    let n = c.args.n in
    let x = c.in_err-found.field-0.0 in
    let p = err_from_is_err_and c.from_residual.result c.from_residual.ensures.1 in
    rw (p.1, p.2)
    (sym (numbers_short _ (n - (l.i + 1)) x.bit x.lacks)
    ∙ numbers_step _ n l.i (on l.bit (c.args.place.slot + l.i) l.row) (short x.bit x.lacks) _ (search rules) (sym (number_short _ _ _ _ x (search rules))) l.invariant)

pub returns-then-value-eq31-clause-row_after : goal.returns-then-value-eq31-clause-row_after
returns-then-value-eq31-clause-row_after c =
    let l = c.loop-i in
    let n = c.args.n in
    sym (numbers_float _ (n - (l.i + 1)) l.bit)
    ∙ numbers_step _ n l.i (on l.bit (c.args.place.slot + l.i) l.row) (float l.bit) _ (search rules)
    (sym (number_float _ _ _ _ c.in_ok-found.found (search rules) c.if-value-eq31.true))
    l.invariant

pub returns-clause-row_after : goal.returns-clause-row_after
returns-clause-row_after c =
    let l = c.loop-i in
    let e : c.args.n ≡ l.i = omega arith in
    ap (λ (k : ℕ). on l.bit (c.args.place.slot + k) l.row) e ∙ sym (numbers_none _ _ l.i _ c.loop-i-test.false) ∙ l.invariant
