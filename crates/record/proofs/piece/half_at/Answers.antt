-- `record::piece::half_at` meets its contract. Assumes nothing.
use mathlib.Core.Path.{ap, sym, refl, ◌∙◌}
use native.Mathlib.Omega.{arith}
use Rattle.std.specs.Prelude.{Err}
use Rattle.record.proofs.Readers.{handed, some_of, none_of, read_bad}
use Rattle.record.proofs.HalfPlaces.{digit_small, digits_small, digits_more, digits_stop, half_open, half_closed}
use Rattle.record.proofs.piece.half_at.Goals as goal

pub overflow_add-v : goal.overflow_add-v
overflow_add-v c =
    let t = c.args.text.now in
    let e = sym c.digit_at.ensures ∙ some_of _ _ _ c.in_ok-w.ensures.value in
    record { fits = omega (arith, digits_small t.bytes.now t.at c.loop-i.i c.loop-i.v c.loop-i-test.true c.loop-i.invariant, digit_small t.bytes.now t.at c.loop-i.i c.loop-i.v c.in_ok-w.w e) }

pub loop-i-preserved : goal.loop-i-preserved
loop-i-preserved c = digits_more _ _ _ _ _ c.loop-i.invariant (sym c.digit_at.ensures ∙ some_of _ _ _ c.in_ok-w.ensures.value)

pub returns-in_err-w : goal.returns-in_err-w
returns-in_err-w c =
    let t = c.args.text.now in
    let o = none_of _ _ _ c.in_err-w.ensures.value in
    read_bad _ t t _ _ (handed _ _ c.from_residual.ensures.1 ∙ ap Err (sym o.1)) (digits_stop t.bytes.now t.at c.args.end c.loop-i.i c.loop-i.v c.loop-i-test.true c.loop-i.invariant (sym c.digit_at.ensures ∙ o.0)) refl

pub returns-then-byte-end : goal.returns-then-byte-end
returns-then-byte-end c =
    let t = c.args.text.now in
    record { answer = half_open t.bytes.now t.at c.args.end c.loop-i.i c.loop-i.v _ c.loop-i.invariant c.loop-i.auto.i-end c.loop-i-test.false c.requires c.byte.ensures c.if-byte-end.true; same = refl }

pub returns : goal.returns
returns c =
    let t = c.args.text.now in
    record { answer = half_closed t.bytes.now t.at c.args.end c.loop-i.i c.loop-i.v _ c.loop-i.invariant c.loop-i.auto.i-end c.loop-i-test.false c.requires c.byte.ensures c.if-byte-end.false; same = refl }
