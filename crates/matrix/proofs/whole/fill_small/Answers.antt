-- `whole::fill_small`: place by place. Assumes nothing.
use Rattle.std.proofs.Common.{◌≡◌, ◌/◌, ◌%◌, ◌∙◌, arith}
use Rattle.matrix.specs.Weight.{rule}
use Rattle.matrix.proofs.Front.{front_all}
use Rattle.matrix.proofs.Ruled.{small_whole}
use Rattle.matrix.proofs.whole.fill_small.Goals as goal

pub returns : goal.returns
returns c =
    let n = c.args.n.now in
    let l = c.loop-p in
    let r = c.requires.0 in
    let m = c.requires.1 in
    let e : l.p ≡ 192 = omega arith in
    front_all _ l.out l.p 192 (λ p. rule n c.args.kind (p / 64) (p % 64 / 8) (p % 64 % 8) n.mode) l.invariant c.requires.3 e
    ∙ small_whole n c.args.kind (r.shaped.wide (omega arith)) (r.shaped.high (omega arith))
