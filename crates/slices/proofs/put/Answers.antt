-- `slices::put` meets its contract: the weights are copied one a turn. Assumes nothing.
use mathlib.Core.Path.{◌≡◌, refl, ap, ◌∙◌}
use Prim.Native.Nat.{◌+◌}
use native.Mathlib.Numerals.{add-one}
use native.Mathlib.Omega.{arith}
use borrow.Author.Rules.{rules}
use lib.Ieee.{nan}
use lib.ListN.{length, length-set}
use lib.Seq.{paste, paste-zero, paste-suc}
use Rattle.slices.proofs.Laws.{put_all}
use Rattle.slices.proofs.put.Goals as goal

pub loop-i-init : goal.loop-i-init
loop-i-init c = let a = c.args in (refl, paste-zero a.arena.now a.at a.weights.now)

pub loop-i-preserved : goal.loop-i-preserved
loop-i-preserved c =
    let l = c.loop-i in
    let a = c.args in
    (length-set l.arena (a.at + l.i) _ ∙ l.invariant.0, rw (l.invariant.1, add-one l.i) (paste-suc a.arena.now a.at a.weights.now l.i nan (search rules) (search rules)))

pub returns : goal.returns
returns c =
    let l = c.loop-i in
    let a = c.args in
    let e : l.i ≡ length a.weights.now = omega arith in
    l.invariant.1 ∙ ap (paste a.arena.now a.at a.weights.now) e ∙ put_all a.arena.now a.at a.weights.now (search rules)
