-- `record::series::put_items` meets its contract: the loop of `ItemStores`. Assumes nothing.
use Prim.Native.Nat.{◌+◌, ◌*◌, ◌<◌}
use lib.ListN.{length}
use Rattle.record.proofs.ItemStores.{Wrote}
use Rattle.record.proofs.series.put_items.Given as goal

abbrev pub invariant-loop-i : goal.invariant-loop-i
invariant-loop-i g l = (l.at + 4294967296 * length l.src < 4611686018427387904) × Wrote g.S.Series.any g.S.Series.format l.src l.initial.out l.at l.out l.i l.p
