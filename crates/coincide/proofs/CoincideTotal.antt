-- Crate `total`: any two results that a public function's contract allows coincide, and what they leave in each lent slice. Assumes nothing.
use mathlib.Core.Path.{◌≡◌, sym, ◌∙◌}
use Rattle.coincide.proofs.Facts.{Ura, SProp, Fun, Memory, Routine, Coincide, one, two}
use Rattle.total.specs.contracts.bits as bits
use Rattle.total.specs.contracts.stretch_total as stretch-total
use Rattle.total.specs.contracts.replace_kind as replace-kind
use types.Logic.{Logic}

module _ {M : Type 1} {𝓤 : Ura M} (𝓛 : Logic 𝓤) (mem : Memory → SProp 𝓤) (run : Routine → Fun 𝓤) where
  pub bits_coincide : Coincide 𝓤 bits.ended (bits.clauses 𝓛 mem run) (λ κs r q s t. r ≡ q)
  bits_coincide κs a g r q s t = one 𝓤 (λ e f. e ∙ sym f)

  pub stretch_total_coincide : Coincide 𝓤 stretch-total.ended (stretch-total.clauses 𝓛 mem run) (λ κs r q s t. r ≡ q)
  stretch_total_coincide κs a g r q s t = one 𝓤 (λ e f. e ∙ sym f)

  pub replace_kind_coincide : Coincide 𝓤 replace-kind.ended (replace-kind.clauses 𝓛 mem run) (λ κs r q s t. (r ≡ q) × (s.0.now ≡ t.0.now))
  replace_kind_coincide κs a g r q s t = two 𝓤 (λ e f. (e.0 ∙ sym f.0, e.1 ∙ sym f.1))
