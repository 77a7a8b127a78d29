-- `outputs::invert`: from the front. Assumes nothing.
use Rattle.std.proofs.Common.{◌≡◌, length, get_or, sym, refl, ap, ◌∙◌, arith}
use lib.Ieee.{nan, binary32, div, of_bits}
use Rattle.bands.specs.Bands.{one}
use Rattle.bands.proofs.TableLaws.{map_tab}
use Rattle.matrix.proofs.Front.{front_on, front_all, front_past}
use Rattle.matrix.proofs.outputs.invert.Goals as goal

pub loop-w-preserved : goal.loop-w-preserved
unfolding of_bits
loop-w-preserved c =
    let l = c.loop-w in
    let s = c.args.s.now in
    front_on s l.s l.w-index (λ k. div binary32 one (get_or s k nan)) _ l.invariant (ap (div binary32 one) (front_past s l.s l.w-index (λ k. div binary32 one (get_or s k nan)) nan l.invariant (omega arith)))

pub returns : goal.returns
returns c =
    let l = c.loop-w in
    let s = c.args.s.now in
    let e : l.w-index ≡ length s = omega arith in
    front_all s l.s l.w-index (length s) (λ k. div binary32 one (get_or s k nan)) l.invariant refl e ∙ sym (map_tab (div binary32 one) s nan)
