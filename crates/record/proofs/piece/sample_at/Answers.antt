-- `record::piece::sample_at` meets its contract. Assumes nothing.
use mathlib.Core.Path.{◌≡◌, refl, ◌∙◌}
use Prim.Native.Nat.{◌+◌}
use native.Mathlib.Omega.{arith}
use borrow.Author.Rules.{rules}
use borrow.Author.Tests.{tests}
use mir.Syntax.{w32}
use mir.Val.{to_z, of_z}
use Rattle.record.proofs.Readers.{handed, read_bad}
use Rattle.record.proofs.SignPlaces.{sample_one, sample_two, sample_nought, sample_led, minus_got, minus_bad, plus_got, plus_bad, number_limit}
use Rattle.record.proofs.piece.sample_at.Goals as goal

pub returns-then-byte-end : goal.returns-then-byte-end
returns-then-byte-end c = record { answer = sample_led _ _ _ _ c.byte.ensures _ c.byte-in-48.ensures c.in-48.is c.if-byte-end.true; same = refl }

pub invariant_of-text : goal.invariant_of-text
invariant_of-text c = let t = c.args.text.now in record { within = sample_two t.bytes.now t.at c.args.end _ c.byte.ensures _ c.byte-in-48.ensures c.if-byte-end.false c.requires.1 }

pub returns-else-byte-end : goal.returns-else-byte-end
returns-else-byte-end c = record { answer = sample_nought _ _ _ _ c.byte.ensures _ c.byte-in-48.ensures c.in-48.is c.if-byte-end.false c.requires.1; same = refl }

pub returns-in_err-m-in-45 : goal.returns-in_err-m-in-45
returns-in_err-m-in-45 c = read_bad _ _ _ _ _ (handed _ _ c.from_residual.ensures.1) (minus_bad _ _ _ _ c.byte.ensures _ (omega (arith, c.in-45.is)) c.in-45.is c.in_err-m-in-45.ensures.answer) c.in_err-m-in-45.ensures.same

pub minus_of-requires : goal.minus_of-requires
minus_of-requires c =
    let t = c.args.text.now in
    number_limit 2147483648 c.args.end t.bytes.now (t.at + 1) c.in_ok-m-in-45.m _ c.requires.0 (omega arith) (sample_one t.bytes.now t.at c.args.end _ c.byte.ensures c.in-45.is) c.in_ok-m-in-45.ensures.answer

pub returns-in_ok-m-in-45 : goal.returns-in_ok-m-in-45
returns-in_ok-m-in-45 c =
    let z : to_z w32 (of_z w32 c.minus_of.result) ≡ c.minus_of.result = search rules in
    record { answer = minus_got _ _ _ _ c.byte.ensures c.in_ok-m-in-45.m _ _ (omega (arith, c.in-45.is)) c.in-45.is c.in_ok-m-in-45.ensures.answer (z ∙ c.minus_of.ensures); same = c.in_ok-m-in-45.ensures.same }

pub returns-in_err-m-in_default : goal.returns-in_err-m-in_default
returns-in_err-m-in_default c = read_bad _ _ _ _ _ (handed _ _ c.from_residual-in_err-m-in_default.ensures.1) (plus_bad _ _ _ _ c.byte.ensures _ (search (rules, tests)) (search (rules, tests)) c.in_err-m-in_default.ensures.answer) c.in_err-m-in_default.ensures.same

pub plus_of-requires : goal.plus_of-requires
plus_of-requires c = let t = c.args.text.now in number_limit 2147483647 c.args.end t.bytes.now t.at c.in_ok-m-in_default.m _ c.requires.0 (omega arith) t.within c.in_ok-m-in_default.ensures.answer

pub returns-in_ok-m-in_default : goal.returns-in_ok-m-in_default
returns-in_ok-m-in_default c =
    let z : to_z w32 (of_z w32 c.plus_of.result) ≡ c.plus_of.result = search rules in
    record { answer = plus_got _ _ _ _ c.byte.ensures c.in_ok-m-in_default.m _ _ (search (rules, tests)) (search (rules, tests)) c.in_ok-m-in_default.ensures.answer (z ∙ c.plus_of.ensures); same = c.in_ok-m-in_default.ensures.same }
