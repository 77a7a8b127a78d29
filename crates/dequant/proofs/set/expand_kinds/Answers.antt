-- `set::expand_kinds` meets its contract: what a kind's answer makes of the answer so far. Assumes nothing.
use mathlib.Core.Path.{sym, ◌∙◌}
use Rattle.dequant.proofs.Kindwise.{one_more, straight_more, transposed_more, stops_answer}
use Rattle.dequant.proofs.set.expand_kinds.Goals as goal

pub loop-k-preserved : goal.loop-k-preserved
loop-k-preserved c =
    let l = c.loop-k in
    let x = c.expand_at-a in
    let done = sym c.is_done.ensures ∙ c.if-not-is_done.false in
    record {
      accepted = one_more _ _ l.k x.result l.invariant.accepted x.ensures.answer done;
      straight = straight_more _ _ l.k x.result _ _ (l.auto.straight ∙ c.requires.first) l.invariant.straight x.ensures.straight done;
      transposed = transposed_more _ _ l.k x.result _ _ (l.auto.transposed ∙ c.requires.second) l.invariant.transposed x.ensures.transposed done;
    }

pub returns-then-not-is_done-clause-answer : goal.returns-then-not-is_done-clause-answer
returns-then-not-is_done-clause-answer c =
    let l = c.loop-k in
    stops_answer _ _ l.k _ l.invariant.accepted c.expand_at-a.ensures.answer (sym c.is_done.ensures ∙ c.if-not-is_done.true) c.loop-k-test.true
