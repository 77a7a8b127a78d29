-- `record::piece::fixed_at` meets its contract. Assumes nothing.
use mathlib.Core.Path.{refl}
use Rattle.record.proofs.Framed.{fixed_bad, fixed_got, fixed_within}
use Rattle.record.proofs.piece.fixed_at.Goals as goal

pub returns-then-n-w : goal.returns-then-n-w
returns-then-n-w c = let t = c.args.text.now in record { answer = fixed_bad t.bytes.now c.args.w.now t.at _ c.shared-n.ensures c.if-n-w.true; same = refl }

pub invariant_of-text : goal.invariant_of-text
invariant_of-text c = let t = c.args.text.now in record { within = fixed_within t.bytes.now c.args.w.now t.at _ c.shared-n.ensures t.within c.if-n-w.false }

pub returns : goal.returns
returns c = let t = c.args.text.now in record { answer = fixed_got t.bytes.now c.args.w.now t.at _ c.shared-n.ensures c.if-n-w.false; same = refl }
