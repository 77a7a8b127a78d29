-- The first samples are those of the rule, and the rest is that of as many steps.
use Rattle.std.proofs.Common.{◌≡◌, ◌*◌}
use Rattle.show.specs.Filled.{stored, modulo, sample_at}
use Rattle.show.proofs.filled.fill_samples.Given as goal

abbrev pub invariant-loop-sample : goal.invariant-loop-sample
invariant-loop-sample l = record {
  so_far : l.samples ≡ stored (λ p. p) (sample_at l.base l.step l.modulus) l.sample-index l.initial.samples;
  rest_is : l.rest ≡ modulo (l.sample-index * l.step) l.modulus;
}
