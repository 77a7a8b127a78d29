-- `quant::band_answer`: channel by channel. Assumes nothing.
use Rattle.bands.proofs.QuantLaws.{sound_part, answer_none, answer_on, answer_stop}
use Rattle.bands.proofs.quant.band_answer.Goals as goal

pub loop-c-init : goal.loop-c-init
loop-c-init c = answer_none _ _

pub returns-then-s-count : goal.returns-then-s-count
returns-then-s-count c =
    let a = c.args in
    let k = c.loop-c.c in
    answer_stop a.numbers.now a.count k c.sound_bands-s.result c.loop-c-test.true c.loop-c.invariant
    (sound_part a.numbers.now a.count k c.sound_bands-s.result c.requires.1 c.loop-c-test.true c.sound_bands-s.ensures) c.if-s-count.true

pub loop-c-preserved : goal.loop-c-preserved
loop-c-preserved c =
    let a = c.args in
    let k = c.loop-c.c in
    answer_on a.numbers.now a.count k c.sound_bands-s.result c.loop-c.invariant
    (sound_part a.numbers.now a.count k c.sound_bands-s.result c.requires.1 c.loop-c-test.true c.sound_bands-s.ensures) c.if-s-count.false
