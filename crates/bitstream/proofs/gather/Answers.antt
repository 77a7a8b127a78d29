-- `bitstream::gather` meets its contract: v is the field of the bits from at + j on.
-- Assumes nothing.
use borrow.Author.Rules.{rules}
use mathlib.Core.Path.{refl}
use Prim.Native.Nat.{◌+◌, ◌-◌}
use native.Mathlib.Nat.{sub_self}
use native.Mathlib.Omega.{arith}
use Rattle.bitstream.specs.Bits.{field}
use Rattle.bitstream.proofs.Laws.{field_fits, field_front}
use Rattle.bitstream.proofs.gather.Goals as goal

pub loop-j-init : goal.loop-j-init
unfolding field
loop-j-init c = rw sub_self refl

pub overflow_mul-v : goal.overflow_mul-v
overflow_mul-v c =
    let a = c.args in
    let l = c.loop-j in
    omega (arith, field_fits a.bytes.now (a.at + l.j) (a.n - l.j) 15 (search rules))

pub overflow_add-v : goal.overflow_add-v
overflow_add-v c =
    let a = c.args in
    let l = c.loop-j in
    omega (arith, field_fits a.bytes.now (a.at + l.j) (a.n - l.j) 15 (search rules), c.bit.ensures)

pub loop-j-preserved : goal.loop-j-preserved
loop-j-preserved c =
    let a = c.args in
    let l = c.loop-j in
    cc (field_front a.bytes.now a.at l.j a.n (search rules) (search rules))
