-- Crate `show_weights`: any two results that a public function's contract allows coincide, and what they leave in each lent slice. Assumes nothing.
use mathlib.Core.Path.{◌≡◌, sym, ◌∙◌}
use Rattle.coincide.proofs.Facts.{Ura, SProp, Fun, Memory, Routine, Coincide, one}
use Rattle.show_weights.specs.contracts.total as total
use types.Logic.{Logic}

module _ {M : Type 1} {𝓤 : Ura M} (𝓛 : Logic 𝓤) (mem : Memory → SProp 𝓤) (run : Routine → Fun 𝓤) where
  pub total_coincide : Coincide 𝓤 total.ended (total.clauses 𝓛 mem run) (λ κs r q s t. r ≡ q)
  total_coincide κs a g r q s t = one 𝓤 (λ e f. e ∙ sym f)
