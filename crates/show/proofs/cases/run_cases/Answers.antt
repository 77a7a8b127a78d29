use Rattle.std.proofs.Common.{rules, ap, ◌∙◌, arith}
use Rattle.show.proofs.RunLaws.{replayed_more, replayed_all}
use Rattle.show.proofs.cases.run_cases.Goals as goal
use Rattle.show.proofs.cases.run_cases.Goals.{else-loop-i-test, then-loop-i-test+in_ok-text+in_ok-end+in_ok-write_case+else-i-i-end}

pub loop-i-preserved : goal.loop-i-preserved
loop-i-preserved g c = record {
  before = replayed_more _ _ _ _ _ _ _ _ _ _ _ _ c.loop-i.invariant.before c.named.ensures c.in_ok-text.ensures.bytes c.in_ok-end.ensures.bytes c.in_ok-write_case.ensures.bytes (ap (λ k. k.bytes.now) c.new-case.ensures) (ap (λ k. k.at) c.new-case.ensures ∙ c.word.ensures) c.loop-i.auto.i (omega arith);
  within = search rules;
}

pub returns : goal.returns
returns g c = record {
  bytes =
      elim c.loop-i-test.branch [
        | else-loop-i-test w ↦ rw (w.out-is) (replayed_all _ _ _ _ _ _ c.loop-i.invariant.before (search rules))
        | then-loop-i-test+in_ok-text+in_ok-end+in_ok-write_case+else-i-i-end w ↦
            rw (w.out-is) (replayed_more _ _ _ _ _ _ _ _ _ _ _ _ c.loop-i.invariant.before w.named.ensures w.in_ok-text.ensures.bytes w.in_ok-end.ensures.bytes w.in_ok-write_case.ensures.bytes (ap (λ k. k.bytes.now) w.new-case.ensures) (ap (λ k. k.at) w.new-case.ensures ∙ w.word.ensures) c.loop-i.auto.i (search rules))
      ];
}
