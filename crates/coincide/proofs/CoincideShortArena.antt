-- Crate `short_arena`: any two results that a public function's contract allows coincide, and what they leave in each lent slice. Assumes nothing.
use mathlib.Core.Path.{◌≡◌, sym, ◌∙◌}
use Rattle.coincide.proofs.Facts.{Ura, SProp, Fun, Memory, Routine, Coincide, one, three}
use Rattle.short_arena.specs.contracts.add as add
use Rattle.short_arena.specs.contracts.lookup_reply as lookup-reply
use Rattle.short_arena.specs.contracts.lookup as lookup
use Rattle.short_arena.specs.contracts.drop_kind as drop-kind
use types.Logic.{Logic}

module _ {M : Type 1} {𝓤 : Ura M} (𝓛 : Logic 𝓤) (mem : Memory → SProp 𝓤) (run : Routine → Fun 𝓤) where
  pub add_coincide : Coincide 𝓤 add.ended (add.clauses 𝓛 mem run) (λ κs r q s t. (r ≡ q) × (s.0.now ≡ t.0.now) × (s.1.0.now ≡ t.1.0.now))
  add_coincide κs a g r q s t = three 𝓤 (λ e f. (e.0 ∙ sym f.0, e.1.1 ∙ sym f.1.1, e.1.0 ∙ sym f.1.0))

  pub lookup_reply_coincide : Coincide 𝓤 lookup-reply.ended (lookup-reply.clauses 𝓛 mem run) (λ κs r q s t. r ≡ q)
  lookup_reply_coincide κs a g r q s t = one 𝓤 (λ e f. e ∙ sym f)

  pub lookup_coincide : Coincide 𝓤 lookup.ended (lookup.clauses 𝓛 mem run) (λ κs r q s t. r.now ≡ q.now)
  lookup_coincide κs a g r q s t = one 𝓤 (λ e f. e ∙ sym f)

  pub drop_kind_coincide : Coincide 𝓤 drop-kind.ended (drop-kind.clauses 𝓛 mem run) (λ κs r q s t. (r ≡ q) × (s.0.now ≡ t.0.now) × (s.1.0.now ≡ t.1.0.now))
  drop_kind_coincide κs a g r q s t = three 𝓤 (λ e f. (e.0 ∙ sym f.0, e.1.1 ∙ sym f.1.1, e.1.0 ∙ sym f.1.0))
