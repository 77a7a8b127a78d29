-- `bitstream::read_bits` meets its contract: what is there of the field is what `lacking` takes away. Assumes nothing.
use mathlib.Core.Path.{◌≡◌, sym, ap, ◌∙◌}
use Prim.Native.Nat.{ℕ, ◌+◌, ◌-◌, ◌≤◌, max}
use native.Mathlib.Omega.{arith}
use Rattle.bitstream.specs.Bits.{width_of, short, lacking}
use Rattle.bitstream.proofs.Laws.{read_in, read_past, width_some}
use Rattle.bitstream.proofs.read_bits.Goals as goal

-- the width less what is there is what the field lacks
lacks : (at end gone n w : ℕ) → gone ≡ max end at → n ≡ w → n - (gone - at) ≡ lacking end at w
lacks at end gone n w g e = omega arith

-- a field that lacks nothing ends within the header
within : (at end gone n w : ℕ) → gone ≡ max end at → n ≡ w → 1 ≤ w → n ≤ gone - at → at + w ≤ end
within at end gone n w g e s h = omega arith

pub returns-then-n-there : goal.returns-then-n-there
returns-then-n-there c =
    let a = c.args in
    let e = lacks a.at c.bit_count-end.result c.max-gone.result c.width-n.result (width_of a.field) c.max-gone.ensures c.width-n.ensures.0 in
    ap (short a.at) e ∙ rw c.bit_count-end.ensures (sym (read_past a.bytes.now a.at (width_of a.field) (omega (arith, e))))

pub returns : goal.returns
returns c =
    let a = c.args in
    let ends = within a.at c.bit_count-end.result c.max-gone.result c.width-n.result (width_of a.field) c.max-gone.ensures c.width-n.ensures.0 (width_some a.field) c.if-n-there.false in
    rw (c.gather.ensures, c.width-n.ensures.0) (sym (read_in a.bytes.now a.at (width_of a.field) (rw c.bit_count-end.ensures at ends)))
