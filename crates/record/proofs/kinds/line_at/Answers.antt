-- `record::kinds::line_at` meets its contract. Assumes nothing.
use mathlib.Core.Path.{subst}
use mathlib.Core.List.{List}
use Prim.Native.Nat.{ℕ}
use Rattle.std.specs.Prelude.{Ok, Err}
use Rattle.record.specs.Format.{lit}
use Rattle.record.specs.Answers.{Read}
use Rattle.record.proofs.Readers.{handed}
use Rattle.record.proofs.LinePlaces.{line_none, line_name, line_items}
use Rattle.record.proofs.kinds.line_at.Goals as goal

pub returns-then-n-eq0 : goal.returns-then-n-eq0
returns-then-n-eq0 g c = line_none g.S.Series.named g.S.Series.any g.S.Series.format _ _ _ _ c.if-n-eq0.true

pub returns-in_err-fixed_at : goal.returns-in_err-fixed_at
returns-in_err-fixed_at g c =
    let x = subst (λ (w : List ℕ). Read (lit w) c.args.text.now c.fixed_at.new.text (Err c.in_err-fixed_at.field-0.0)) c.name.ensures.text c.in_err-fixed_at.ensures in
    line_name g.S.Series.named g.S.Series.any g.S.Series.format _ _ _ _ c.if-n-eq0.false _ _ _ (handed _ _ c.from_residual.ensures.1) x

pub returns : goal.returns
returns g c =
    let x = subst (λ (w : List ℕ). Read (lit w) c.args.text.now c.fixed_at.new.text (Ok tt)) c.name.ensures.text c.in_ok-fixed_at.ensures in
    line_items g.S.Series.named g.S.Series.any g.S.Series.format _ _ c.args.out.now _ c.if-n-eq0.false _ x _ _ _ c.items_at.ensures
