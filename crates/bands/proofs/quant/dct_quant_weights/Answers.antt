-- `quant::dct_quant_weights`: LENT, BAND, DONE. Assumes nothing.
use Rattle.std.proofs.Common.{length, sym, ◌∙◌}
use Rattle.bands.proofs.LentLaws.{lent_is_grid, lent_numbers_are}
use Rattle.bands.proofs.QuantLaws.{answer_lent, answer_right, leaves_as, all_done, all_zero_lem}
use Rattle.bands.proofs.quant.dct_quant_weights.Goals as goal

pub band_answer-answer-requires : goal.band_answer-answer-requires
band_answer-answer-requires c =
    let a = c.args in
    let e = sym c.lent_right.ensures ∙ c.if-not-lent_right.false in
    ((lent_is_grid (length a.numbers.now) a.count a.width a.height (length a.out.now) e).few, lent_numbers_are (length a.numbers.now) a.count a.width a.height (length a.out.now) e)

pub weigh_all-requires : goal.weigh_all-requires
weigh_all-requires c =
    let a = c.args in
    let e = sym c.lent_right.ensures ∙ c.if-not-lent_right.false in
    (lent_numbers_are (length a.numbers.now) a.count a.width a.height (length a.out.now) e, lent_is_grid (length a.numbers.now) a.count a.width a.height (length a.out.now) e)

pub returns-then-not-lent_right : goal.returns-then-not-lent_right
returns-then-not-lent_right c =
    let a = c.args in
    let e = answer_lent a.numbers.now a.count a.width a.height a.out.now (sym c.lent_right.ensures ∙ c.if-not-lent_right.true) in
    record { answer = e; left = leaves_as a.numbers.now a.count a.width a.height a.out.now _ e }

pub returns-in-Ok : goal.returns-in-Ok
returns-in-Ok c =
    let a = c.args in
    let e = sym c.lent_right.ensures ∙ c.if-not-lent_right.false in
    let b = c.band_answer-answer.ensures in
    record {
      answer = b ∙ answer_right a.numbers.now a.count a.width a.height a.out.now e;
      left = c.weigh_all.ensures ∙ all_done a.numbers.now a.count a.width a.height a.out.now e (sym b ∙ c.in-Ok.is);
    }

pub returns-in-Err : goal.returns-in-Err
returns-in-Err c =
    let a = c.args in
    let e = sym c.lent_right.ensures ∙ c.if-not-lent_right.false in
    let b = c.band_answer-answer.ensures in
    record {
      answer = b ∙ answer_right a.numbers.now a.count a.width a.height a.out.now e;
      left = c.clear.ensures ∙ all_zero_lem a.numbers.now a.count a.width a.height a.out.now _ e (sym b ∙ c.in-Err.is);
    }
