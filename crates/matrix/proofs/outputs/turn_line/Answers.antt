-- `outputs::turn_line` meets its contract. Assumes nothing.
use Rattle.std.proofs.Common.{ℕ, ◌+◌, ◌*◌, ◌/◌, ◌%◌, ◌<◌, get_or, sym, ap, arith}
use lib.Ieee.{nan}
use Rattle.bands.proofs.TableLaws.{step_on}
use Rattle.matrix.specs.Mirror.{turned}
use Rattle.matrix.proofs.Turned.{line_at}
use Rattle.matrix.proofs.outputs.turn_line.Goals as goal

pub loop-y-preserved : goal.loop-y-preserved
loop-y-preserved c =
    let l = c.loop-y in
    let a = c.args in
    let y : l.y < a.h = omega arith in
    step_on
    a.transposed.now
    l.transposed
    (a.l * a.h)
    l.y
    (λ k. get_or a.straight.now (turned a.w a.h (a.l * a.h + k)) nan)
    (get_or a.straight.now (a.l / a.w * (a.w * a.h) + a.l % a.w + l.y * a.w) nan)
    l.invariant
    (ap (λ (k : ℕ). get_or a.straight.now k nan) (sym (line_at a.w a.h a.l l.y c.requires.2 y)))
