-- `outputs::turn` meets its contract. Assumes nothing.
use Rattle.std.proofs.Common.{◌≡◌, ℕ, ◌+◌, ◌*◌, get_or, sym, ap, ◌∙◌, mul_assoc, add-mul, one-mul, arith}
use lib.Ieee.{nan}
use Rattle.matrix.specs.Mirror.{turned}
use Rattle.matrix.proofs.Front.{front_next, front_all}
use Rattle.matrix.proofs.outputs.turn.Goals as goal

one_more : (l h : ℕ) → l * h + h ≡ (l + 1) * h
one_more l h = sym (add-mul l 1 h ∙ ap (λ (k : ℕ). l * h + k) (one-mul h))

pub loop-l-preserved : goal.loop-l-preserved
loop-l-preserved c =
    let l = c.loop-l in
    let a = c.args in
    front_next a.transposed.now l.transposed _ (l.l * a.h) a.h ((l.l + 1) * a.h) (λ p. get_or a.straight.now (turned a.w a.h p) nan) l.invariant c.turn_line.ensures (one_more l.l a.h)

pub returns : goal.returns
returns c =
    let l = c.loop-l in
    let a = c.args in
    let e : l.l ≡ 3 * a.w = omega arith in
    front_all a.transposed.now _ (l.l * a.h) (3 * (a.w * a.h)) (λ p. get_or a.straight.now (turned a.w a.h p) nan) l.invariant c.requires.4 (ap (λ (k : ℕ). k * a.h) e ∙ mul_assoc 3 a.w a.h)
