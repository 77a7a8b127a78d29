-- `corner::mode5_at`. Assumes nothing.
use Rattle.std.proofs.Common.{◌+◌, ◌*◌, ◌/◌, ◌%◌, ◌<◌, ◌∙◌, arith}
use Rattle.matrix.specs.Numbers.{number_of}
use Rattle.matrix.proofs.Corners.{cell_of, five_8, five_1, five_row, five_column, five_corner}
use Rattle.matrix.proofs.corner.mode5_at.Goals as goal

pub returns-then-q-eq8 : goal.returns-then-q-eq8
returns-then-q-eq8 c = c.number.ensures ∙ five_8 (number_of c.args.n.now c.args.c) c.args.q c.args.a c.args.b c.if-q-eq8.true

pub returns-then-y-eq1 : goal.returns-then-y-eq1
returns-then-y-eq1 c = five_row (number_of c.args.n.now c.args.c) c.args.q c.args.a c.args.b c.if-y-eq1.true c.if-q-eq8.false

pub returns-then-q-eq1 : goal.returns-then-q-eq1
returns-then-q-eq1 c = c.number-then-q-eq1.ensures ∙ five_1 (number_of c.args.n.now c.args.c) c.args.q c.args.a c.args.b c.if-q-eq1.true

pub returns-then-x-eq1 : goal.returns-then-x-eq1
returns-then-x-eq1 c = five_column (number_of c.args.n.now c.args.c) c.args.q c.args.a c.args.b c.if-y-eq1.false c.if-x-eq1.true c.if-q-eq1.false

pub returns : goal.returns
returns c =
    let v = c.before.before.before in
    let a = v.args in
    let y : a.q / 8 / 2 < 4 = omega arith in
    cell_of a.n.now a.corners.now a.c (a.q / 8 / 2 * 4 + a.q % 8 / 2) v.requires.2 v.requires.0 (omega arith)
    ∙ five_corner (number_of a.n.now a.c) a.q a.a a.b c.if-y-eq1.false c.if-x-eq1.false
