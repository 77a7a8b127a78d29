-- `set::expand_at` meets its contract: what the kind is handed is its row, its samples and its parts of both arenas. Assumes nothing.
use Rattle.dequant.proofs.Kindwise.{kind_answered}
use Rattle.dequant.proofs.set.expand_at.Goals as goal

pub returns-clause-answer : goal.returns-clause-answer
returns-clause-answer c =
    let a = c.args in
    kind_answered a.rows.now a.samples.now _ a.straight.now a.transposed.now a.kind _ _ c.requires.1 c.requires.0 c.arena_start-at.ensures c.arena_length.ensures c.samples_of.ensures _
    c.expand_kind.ensures.answer
