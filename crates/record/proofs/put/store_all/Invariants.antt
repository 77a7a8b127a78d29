-- `record::put::store_all` meets its contract: what is passed is stored. Assumes nothing.
use mathlib.Core.Path.{◌≡◌}
use Prim.Native.Nat.{◌+◌, ◌<◌}
use lib.ListN.{length, take}
use lib.Seq.{sets}
use Rattle.record.proofs.put.store_all.Given as goal

abbrev pub invariant-loop-i : goal.invariant-loop-i
invariant-loop-i g l = (l.at + length l.w < 9223372036854775808) × (l.out ≡ sets l.initial.out l.at (take l.i l.w))
