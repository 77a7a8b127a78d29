-- `list::lay_bands`: band after band (`Filling`). Assumes nothing.
use Rattle.std.proofs.Common.{◌≡◌, length, get_or, set, ◌∙◌, arith, length-set}
use lib.Ieee.{nan}
use Rattle.bands.specs.Bands.{at_of}
use Rattle.bands.proofs.Sound.{filling_one, filling_more}
use Rattle.bands.proofs.list.lay_bands.Goals as goal

pub loop-i-init : goal.loop-i-init
loop-i-init c =
    let a = c.args in
    let h = c.requires in
    filling_one (at_of a.numbers.now) _ a.all.now a.at h.2 (omega (arith, h.0, h.1))

pub loop-i-preserved : goal.loop-i-preserved
loop-i-preserved c =
    let a = c.args in
    let h = c.requires in
    let v = c.loop-i in
    let l : length (set a.all.now a.at (get_or a.numbers.now 0 nan)) ≡ 48 = length-set a.all.now a.at _ ∙ h.1 in
    filling_more (at_of a.numbers.now) (length a.numbers.now) _ a.at v.i v.last c.mult-last.result v.all v.invariant c.mult-last.ensures c.loop-i-test.true (omega (arith, l, h.0, h.3))
