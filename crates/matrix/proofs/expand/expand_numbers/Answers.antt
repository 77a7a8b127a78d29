-- `expand::expand_numbers` by its two cases. Assumes nothing.
use Rattle.std.proofs.Common.{sym, ◌∙◌}
use Rattle.matrix.specs.Mirror.{mirror}
use Rattle.matrix.specs.Views.{rules_of, inverse}
use Rattle.matrix.proofs.Answered.{ready, refused_leaves}
use Rattle.matrix.proofs.expand.expand_numbers.Goals as goal

pub returns-then-not-is_done-clause-straight : goal.returns-then-not-is_done-clause-straight
returns-then-not-is_done-clause-straight c =
    let a = c.args in
    c.clear.ensures ∙ refused_leaves a.n.now a.kind _ c.band_answer-b.ensures (sym c.is_done.ensures ∙ c.if-not-is_done.true) (inverse (rules_of a.n.now a.kind)) a.straight.now

pub returns-then-not-is_done-clause-transposed : goal.returns-then-not-is_done-clause-transposed
returns-then-not-is_done-clause-transposed c =
    let a = c.args in
    c.clear-then-not-is_done.ensures ∙ refused_leaves a.n.now a.kind _ c.band_answer-b.ensures (sym c.is_done.ensures ∙ c.if-not-is_done.true) (mirror a.kind (inverse (rules_of a.n.now a.kind))) a.transposed.now

pub fill_rules-requires : goal.fill_rules-requires
fill_rules-requires c =
    let a = c.args in
    (ready a.n.now a.kind _ c.requires.0 c.band_answer-b.ensures (sym c.is_done.ensures ∙ c.if-not-is_done.false), c.requires.1)
