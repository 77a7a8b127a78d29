-- `bitstream::gather` meets its contract: v is the field of the bits from at + j on.
-- Assumes nothing.
use mathlib.Core.Path.{◌≡◌}
use Prim.Native.Nat.{◌+◌, ◌-◌}
use Rattle.bitstream.specs.Bits.{field}
use Rattle.bitstream.proofs.gather.Given as goal

abbrev pub invariant-loop-j : goal.invariant-loop-j
invariant-loop-j l = l.v ≡ field l.bytes (l.at + l.j) (l.n - l.j)
