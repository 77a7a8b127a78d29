-- `raw::fill_raw` meets its contract. Assumes nothing.
use Rattle.std.proofs.Common.{◌≡◌, length, get_or, ℤ, pos, sym, ap, ◌∙◌, arith, rules, w32}
use mir.ValLaws.{to_z-of_z}
use Rattle.matrix.specs.Raw.{weight_of}
use Rattle.bands.proofs.TableLaws.{map_tab}
use Rattle.matrix.proofs.Front.{front_on, front_all}
use Rattle.matrix.proofs.raw.fill_raw.Goals as goal

pub loop-i-preserved : goal.loop-i-preserved
loop-i-preserved c =
    let l = c.loop-i in
    let a = c.args in
    front_on _ l.straight l.i _ c.weight.result l.invariant
    (c.weight.ensures ∙ ap (λ (z : ℤ). weight_of a.denominator z) (to_z-of_z w32 (get_or a.samples.now l.i (pos 0)) (record { sfits = search rules })))

pub returns : goal.returns
returns c =
    let a = c.args in
    let e : c.loop-i.i ≡ length a.samples.now = omega arith in
    front_all a.straight.now _ c.loop-i.i (length a.samples.now) (λ k. weight_of a.denominator (get_or a.samples.now k (pos 0))) c.loop-i.invariant c.requires e
    ∙ sym (map_tab (weight_of a.denominator) a.samples.now (pos 0))
