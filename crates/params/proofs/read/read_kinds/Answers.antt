-- `params::read::read_kinds` meets its contract. The loop's invariant: what is left to read, from the bit and the rows in hand, comes to what was to be read. Assumes nothing.
use mathlib.Core.Path.{sym, ap, ◌∙◌}
use Prim.Native.Nat.{◌+◌, ◌-◌}
use borrow.Author.Rules.{rules}
use Rattle.std.specs.Prelude.{Ok}
use Rattle.std.proofs.lemmas.Result.{err_from_is_err_and}
use Rattle.params.specs.declared.read.Stop.{Stop}
use Rattle.params.specs.Header.{gives, kinds}
use Rattle.params.proofs.SetLaws.{kinds_fault, kinds_raw, kinds_step, kinds_none}
use Rattle.params.proofs.read.read_kinds.Goals as goal

pub returns-in_err-stop : goal.returns-in_err-stop
returns-in_err-stop c =
    let l = c.loop-kind in
    let x = c.in_err-stop.field-0.0 in
    let rows = c.read_kind.new.rows in
    let p = err_from_is_err_and c.from_residual.result c.from_residual.ensures.1 in
    rw (p.1, p.2)
    (sym (kinds_fault _ (17 - (l.kind + 1)) (l.kind + 1) x rows)
    ∙ kinds_step _ l.kind l.bit l.rows _ (search rules) c.in_err-stop.ensures
    ∙ l.invariant)

pub returns-in_default : goal.returns-in_default
returns-in_default c =
    let l = c.loop-kind in
    let d = c.in_default in
    let rows = c.read_kind.new.rows in
    rw d.is
    (sym (kinds_raw _ (17 - (l.kind + 1)) (l.kind + 1) d.field-0 d.field-1 rows)
    ∙ kinds_step _ l.kind l.bit l.rows _ (search rules) (rw d.is at c.in_ok-stop.ensures)
    ∙ l.invariant)

pub loop-kind-preserved : goal.loop-kind-preserved
loop-kind-preserved c =
    let l = c.loop-kind in
    let rows = c.read_kind.new.rows in
    ap (λ (s : Stop). kinds c.args.bytes.now (17 - (l.kind + 1)) (l.kind + 1) (gives (Ok s) rows)) (sym c.in-Done.is)
    ∙ kinds_step _ l.kind l.bit l.rows _ (search rules) c.in_ok-stop.ensures
    ∙ l.invariant

pub returns : goal.returns
returns c = let l = c.loop-kind in sym (kinds_none _ l.kind _ (search rules)) ∙ l.invariant
