-- What is written behind the row's name are its first i numbers.
use Rattle.std.specs.Io.KnownBytes.{Appends}
use Rattle.show.specs.Written.{items_of}
use Rattle.show.proofs.row.Given as goal

abbrev pub invariant-loop-i : goal.invariant-loop-i
invariant-loop-i g l = Appends (g.W.Write.contents l.initial.out) (g.W.Write.contents l.out) (items_of l.numbers l.i)
