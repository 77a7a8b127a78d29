-- `record::writer::put_line` meets its contract. Assumes nothing.
use mathlib.Core.Path.{◌≡◌, ap, sym, ◌∙◌}
use mathlib.Core.List.{List}
use Prim.Native.Nat.{ℕ, ◌+◌}
use native.Mathlib.Omega.{arith}
use borrow.Author.Tests.{eqb-true, eqb-false}
use lib.ListN.{length}
use lib.Seq.{sets}
use Rattle.record.proofs.LineStores.{line_empty, line_full}
use Rattle.record.proofs.writer.put_line.Goals as goal

pub returns-then-is_empty : goal.returns-then-is_empty
returns-then-is_empty g c = let a = c.args in line_empty g.S.Series.named g.S.Series.any g.S.Series.format a.src.now a.out.now a.at (eqb-true (length a.src.now) 0 (sym c.is_empty.ensures ∙ c.if-is_empty.true))

pub returns : goal.returns
returns g c =
    let a = c.args in
    let n : c.name.result.now ≡ g.S.Series.named = c.name.ensures.text in
    line_full g.S.Series.named g.S.Series.any g.S.Series.format a.src.now a.out.now a.at (omega (arith, ap length n, c.name.ensures.short)) (eqb-false (length a.src.now) 0 (sym c.is_empty.ensures ∙ c.if-is_empty.false)) _ _ _ _
    (c.store_all-p.ensures.place ∙ ap (λ (w : List ℕ). a.at + length w) n) (c.store_all-p.ensures.items ∙ ap (sets a.out.now a.at) n) c.put_items.ensures
