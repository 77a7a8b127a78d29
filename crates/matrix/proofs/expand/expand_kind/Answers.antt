-- `expand::expand_kind`: a row that is allowed, raw and not. Assumes nothing.
use Rattle.std.proofs.Common.{◌≡◌, true, false, List, map, sym, ap, ◌∙◌, subst, rules}
use lib.Ieee.{Float}
use Rattle.params.specs.Allowed.{row_allowed}
use Rattle.params.proofs.FaultLaws.{row_done}
use Rattle.params.proofs.FineLaws.{row_fine}
use Rattle.matrix.specs.Mirror.{mirror}
use Rattle.matrix.specs.Numbers.{numbers_of}
use Rattle.matrix.specs.Raw.{odd_row, weight_of}
use Rattle.matrix.specs.Views.{rules_of, inverse, Shaped}
use Rattle.matrix.specs.declared.numbers.Numbers.{Numbers}
use Rattle.matrix.specs.Expanded.{band_answer, weight_answer, or_else, leaves}
use Rattle.matrix.proofs.Meaning.{meaning}
use Rattle.matrix.proofs.Lending.{given}
use Rattle.matrix.proofs.OddLaws.{plain_row, raw_row_lem}
use Rattle.matrix.proofs.RowFacts.{facts, row_shaped, not_raw}
use Rattle.matrix.proofs.Said.{says_kind, raw_answer, plain_answer, raw_meaning}
use Rattle.matrix.proofs.expand.expand_kind.Goals as goal

pub value_of-requires : goal.value_of-requires
value_of-requires c =
    let ok : row_allowed c.args.kind c.args.row.now ≡ true = search (rules, row_done) in
    row_fine _ _ ok 0

pub returns-then-row-eq7 : goal.returns-then-row-eq7
returns-then-row-eq7 c =
    let a = c.args in
    let k = a.kind in
    let e = sym c.lent_right.ensures ∙ c.if-not-lent_right.false in
    let ok : row_allowed k a.row.now ≡ true = search (rules, row_done) in
    let raw = c.if-row-eq7.true in
    let above : odd_row a.row.now ≡ false = raw_row_lem _ raw ∙ sym c.odd_denominator.ensures ∙ c.if-odd_denominator.false in
    let r = c.expand_raw in
    let w = ap (λ (d : Float). map (weight_of d) a.samples.now) c.value_of.ensures ∙ raw_meaning a.row.now a.samples.now k raw ((given _ _ _ _ _ e).samples raw) in
    record {
      answer = r.ensures.answer ∙ ap (weight_answer k) w ∙ raw_answer k a.row.now a.samples.now (facts k a.row.now ok) raw ∙ says_kind k a.row.now a.samples.now _ _ e ok above;
      straight = r.ensures.straight ∙ ap (λ (x : List Float). leaves r.result x a.straight.now) w;
      transposed = r.ensures.transposed ∙ ap (λ (x : List Float). leaves r.result (mirror k x) a.transposed.now) w;
    }

pub numbers_of-requires : goal.numbers_of-requires
numbers_of-requires c =
    let g = given _ _ _ _ _ (sym c.lent_right.ensures ∙ c.if-not-lent_right.false) in
    let ok : row_allowed c.args.kind c.args.row.now ≡ true = search (rules, row_done) in
    (g.slots, g.kind, record { each = row_fine _ _ ok })

pub expand_numbers-requires : goal.expand_numbers-requires
expand_numbers-requires c =
    let a = c.args in
    let g = given a.kind a.row.now _ _ _ (sym c.lent_right.ensures ∙ c.if-not-lent_right.false) in
    let ok : row_allowed a.kind a.row.now ≡ true = search (rules, row_done) in
    (subst (λ (n : Numbers). Shaped n a.kind) (sym c.numbers_of.ensures) (row_shaped a.kind a.row.now g.kind (facts a.kind a.row.now ok) c.if-row-eq7.false), g.first, g.second)

pub returns : goal.returns
returns c =
    let a = c.args in
    let k = a.kind in
    let e = sym c.lent_right.ensures ∙ c.if-not-lent_right.false in
    let ok : row_allowed k a.row.now ≡ true = search (rules, row_done) in
    let plain = c.if-row-eq7.false in
    let f = c.expand_numbers in
    let m = c.numbers_of.ensures in
    let w = meaning a.row.now a.samples.now k (not_raw (numbers_of a.row.now k) k (row_shaped k a.row.now (given _ _ _ _ _ e).kind (facts k a.row.now ok) plain)) in
    record {
      answer = f.ensures.answer ∙ ap (λ (n : Numbers). or_else (band_answer n k 3) (weight_answer k (inverse (rules_of n k)))) m ∙ ap (λ (x : List Float). or_else (band_answer (numbers_of a.row.now k) k 3) (weight_answer k x)) w ∙ plain_answer k a.row.now a.samples.now ∙ says_kind k a.row.now a.samples.now _ _ e ok (plain_row a.row.now plain);
      straight = f.ensures.straight ∙ ap (λ (n : Numbers). leaves f.result (inverse (rules_of n k)) a.straight.now) m ∙ ap (λ (x : List Float). leaves f.result x a.straight.now) w;
      transposed = f.ensures.transposed ∙ ap (λ (n : Numbers). leaves f.result (mirror k (inverse (rules_of n k))) a.transposed.now) m ∙ ap (λ (x : List Float). leaves f.result (mirror k x) a.transposed.now) w;
    }
