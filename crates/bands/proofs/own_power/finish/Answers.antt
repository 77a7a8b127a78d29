-- `own_power::finish` is `finished`. Assumes nothing.
use Rattle.std.proofs.Common.{ℕ, ◌*◌, ◌/◌, ◌^◌, Bool, false, cond, sym, ap, ◌∙◌, ne_eqb}
use lib.Ieee.{nan, binary32, round}
use Rattle.bands.specs.Power.{turns}
use Rattle.bands.specs.Views.{finished}
use Rattle.bands.proofs.Fields.{no_quotient}
use Rattle.bands.proofs.own_power.finish.Goals as goal

pub returns-then-e-eq0 : goal.returns-then-e-eq0
unfolding finished
returns-then-e-eq0 c = no_quotient ∙ ap (λ (e : ℕ). finished e c.args.n c.args.y) (sym c.if-e-eq0.true)

pub returns : goal.returns
unfolding finished
returns c =
    let a = c.args in
    c.rounded.ensures ∙ ap (λ (z : ℕ). round binary32 false (a.y * 2 ^ (z / 2 ^ 32)) (2 ^ 180)) c.turned.ensures
    ∙ sym (ap (λ (u : Bool). cond u nan (round binary32 false (a.y * 2 ^ (turns a.e a.n / 2 ^ 32)) (2 ^ 180))) (ne_eqb a.e 0 c.if-e-eq0.false))
