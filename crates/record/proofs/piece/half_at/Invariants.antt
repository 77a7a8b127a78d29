-- `record::piece::half_at` meets its contract. Assumes nothing.
use Rattle.record.proofs.HalfPlaces.{Digits}
use Rattle.record.proofs.piece.half_at.Given as goal

abbrev pub invariant-loop-i : goal.invariant-loop-i
invariant-loop-i l = Digits l.text.bytes.now l.at l.i l.v
