-- Crate `slices`: any two results that a public function's contract allows coincide, and what they leave in each lent slice. Assumes nothing.
use mathlib.Core.Path.{◌≡◌, sym, ◌∙◌}
use Rattle.coincide.proofs.Facts.{Ura, SProp, Fun, Memory, Routine, Coincide, one}
use Rattle.slices.specs.contracts.put as put
use Rattle.slices.specs.contracts.close as close
use types.Logic.{Logic}

module _ {M : Type 1} {𝓤 : Ura M} (𝓛 : Logic 𝓤) (mem : Memory → SProp 𝓤) (run : Routine → Fun 𝓤) where
  pub put_coincide : Coincide 𝓤 put.ended (put.clauses 𝓛 mem run) (λ κs r q s t. s.0.now ≡ t.0.now)
  put_coincide κs a g r q s t = one 𝓤 (λ e f. e ∙ sym f)

  pub close_coincide : Coincide 𝓤 close.ended (close.clauses 𝓛 mem run) (λ κs r q s t. s.0.now ≡ t.0.now)
  close_coincide κs a g r q s t = one 𝓤 (λ e f. e ∙ sym f)
