-- `record::series::items_at` meets its contract: the loop of `ItemPlaces`. Assumes nothing.
use Prim.Native.Nat.{◌+◌, ◌<◌}
use Rattle.record.proofs.ItemPlaces.{Listed}
use Rattle.record.proofs.series.items_at.Given as goal

abbrev pub invariant-loop-i : goal.invariant-loop-i
invariant-loop-i g l = (l.place + l.n < 4294967296) × Listed g.S.Series.any g.S.Series.format l.initial.text l.n l.initial.out l.place l.out l.i l.text
