-- `set::expand_kinds` meets its contract. The invariant: the kinds below k are accepted, and their weights stand in both arenas. Assumes nothing.
use mathlib.Core.Path.{◌≡◌}
use lib.ListN.{take}
use Rattle.transform.specs.Kinds.{start_of}
use Rattle.std.proofs.Common.{Ok}
use Rattle.dequant.specs.Set.{straight_of, transposed_of, arena_of, kinds_answer}
use Rattle.dequant.proofs.set.expand_kinds.Given as goal

abbrev pub invariant-loop-k : goal.invariant-loop-k
invariant-loop-k l = record {
  accepted : kinds_answer l.rows l.samples l.k ≡ Ok (tt {0});
  straight : take (start_of l.k) l.straight ≡ arena_of (straight_of l.rows l.samples) l.k;
  transposed : take (start_of l.k) l.transposed ≡ arena_of (transposed_of l.rows l.samples) l.k;
}
