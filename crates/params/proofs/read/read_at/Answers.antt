-- `params::read::read_at` meets its contract: each return has the case of `read_header` that its tests say. Assumes nothing.
use mathlib.Core.Path.{sym, ap, ◌∙◌}
use Rattle.std.specs.Prelude.{Err}
use Rattle.params.specs.declared.read.HeaderError.{HeaderError}
use Rattle.params.specs.Header.{gives}
use Rattle.params.proofs.SetLaws.{told, header_kind, header_rows, header_resume, header_short, mapped_err, header_default, header_all}
use borrow.Author.Rules.{rules}
use Rattle.std.proofs.lemmas.Result.{err_from_is_err_and}
use Rattle.params.proofs.read.read_at.Goals as goal
use Rattle.params.proofs.read.read_at.Goals.{then-kind-gt16-via-then-kind-gt16, then-kind-gt16-via-else-kind-gt16+then-rows-ne2176}

pub returns-then-kind-gt16 : goal.returns-then-kind-gt16
returns-then-kind-gt16 c =
    let a = c.args in
    elim c.then-kind-gt16.branch [
      | then-kind-gt16-via-then-kind-gt16 w ↦ told _ _ _ (header_kind a.bytes.now a.at a.kind a.rows.now w.if-kind-gt16.true)
      | then-kind-gt16-via-else-kind-gt16+then-rows-ne2176 w ↦ told _ _ _ (header_rows a.bytes.now a.at a.kind a.rows.now w.if-kind-gt16.false w.if-rows-ne2176.true)
    ]

pub returns-then-kind-gt0 : goal.returns-then-kind-gt0
returns-then-kind-gt0 c =
    let a = c.args in
    told _ _ _ (header_resume a.bytes.now a.at a.kind a.rows.now (search rules) (search rules) (search rules) ∙ sym c.read_kinds.ensures)

pub returns-then-found-eq1 : goal.returns-then-found-eq1
returns-then-found-eq1 c =
    let a = c.args in
    told _ _ _
    (header_default a.bytes.now a.at a.kind a.rows.now (search rules) (search rules) _ (search (rules, c.map_err.ensures.cases)) c.if-found-eq1.true
    ∙ ap (gives _) (sym c.put_default.ensures))

pub returns-in_err-found : goal.returns-in_err-found
returns-in_err-found c =
    let a = c.args in
    let p = err_from_is_err_and c.from_residual.result c.from_residual.ensures.1 in
    let q = mapped_err _ _ _ _ c.map_err.ensures.cases c.in_err-found.was in
    rw (p.1, p.2)
    (told _ _ _ (header_short a.bytes.now a.at a.kind a.rows.now (search rules) (search rules) q.0 (sym c.read_bits.ensures ∙ q.1) ∙ ap (λ (e : HeaderError). gives (Err e) a.rows.now) (search (rules, q.2))))

pub returns : goal.returns
returns c =
    let a = c.args in
    told _ _ _
    (header_all a.bytes.now a.at a.kind a.rows.now (search rules) (search rules) _ (search (rules, c.map_err.ensures.cases)) c.if-found-eq1.false
    ∙ sym c.read_kinds-2.ensures)
