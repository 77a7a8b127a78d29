-- `lists::list_of`: the first j numbers stand in front. Assumes nothing.
use Rattle.std.proofs.Common.{◌≡◌, ◌*◌, ◌≤◌, false, replicate, pos, arith}
use lib.Ieee.{fin, of_bits}
use Rattle.matrix.specs.Numbers.{band_number, list_of, count}
use Rattle.matrix.proofs.Pick.{count_le}
use Rattle.matrix.proofs.Front.{front_take}
use Rattle.matrix.proofs.lists.list_of.Goals as goal

pub returns : goal.returns
unfolding list_of of_bits
returns c =
    let n = c.args.n.now in
    let l = c.loop-j in
    let h : count n c.args.l ≤ 16 = count_le n c.args.l c.requires in
    let e : c.count-count.result ≡ count n c.args.l = c.count-count.ensures in
    (e, rw e (front_take (replicate 48 (fin false 0 (pos 0))) l.numbers l.j (3 * count n c.args.l) (band_number n c.args.l) l.invariant (omega arith) (omega arith)))
