-- `record::piece::number_at` meets its contract: reading from the start is reading on from here. Assumes nothing.
use mathlib.Core.Path.{ap}
use native.Mathlib.Omega.{arith}
use Rattle.record.specs.declared.Text.{Text}
use Rattle.record.proofs.Places.{number_got, number_out}
use Rattle.record.proofs.piece.number_at.Goals as goal

pub returns-then-m-gt0 : goal.returns-then-m-gt0
returns-then-m-gt0 c = record { answer = number_got _ _ _ _ _ _ c.loop-i.invariant.3 c.loop-i.auto.i c.loop-i-test.true c.if-s-i.true c.if-m-gt0.true; same = ap (λ (t : Text). t.bytes) c.loop-i.invariant.0 }

pub returns : goal.returns
returns c = record { answer = number_out _ _ _ _ _ _ c.loop-i.invariant.3 c.loop-i.auto.i (let t = c.args.text.now in omega (arith, c.loop-i.auto.i-end t.within)); same = ap (λ (t : Text). t.bytes) c.loop-i.invariant.0 }
