-- Crate `params`: any two results that a public function's contract allows coincide, and what they leave in each lent slice. Assumes nothing.
use mathlib.Core.Path.{◌≡◌, sym, ap, ◌∙◌}
use Rattle.bitstream.specs.Held.{in_hand}
use Rattle.params.specs.Next.{bit_of}
use Rattle.coincide.proofs.Facts.{Ura, SProp, Fun, Memory, Routine, Coincide, one}
use Rattle.params.specs.contracts.parse as parse
use Rattle.params.specs.contracts.read_header as read-header
use Rattle.params.specs.contracts.any_raw as any-raw
use Rattle.params.specs.contracts.samples_lent as samples-lent
use Rattle.params.specs.contracts.allows as allows
use Rattle.params.specs.contracts.check_row as check-row
use Rattle.params.specs.contracts.check_rows as check-rows
use types.Logic.{Logic}

module _ {M : Type 1} {𝓤 : Ura M} (𝓛 : Logic 𝓤) (mem : Memory → SProp 𝓤) (run : Routine → Fun 𝓤) where
  pub parse_coincide : Coincide 𝓤 parse.ended (parse.clauses 𝓛 mem run) (λ κs r q s t. (r ≡ q) × (s.0.now ≡ t.0.now) × (s.1.1.0.now ≡ t.1.1.0.now))
  parse_coincide κs a g r q s t = one 𝓤 (λ e f.
      let same = e.0 ∙ sym f.0 in
      (same, e.2 ∙ ap (λ x. in_hand a.0.now.bytes (bit_of a.0.now.at x)) same ∙ sym f.2, e.1 ∙ sym f.1))

  pub read_header_coincide : Coincide 𝓤 read-header.ended (read-header.clauses 𝓛 mem run) (λ κs r q s t. (r ≡ q) × (s.1.1.1.0.now ≡ t.1.1.1.0.now))
  read_header_coincide κs a g r q s t = one 𝓤 (λ e f. (e.0 ∙ sym f.0, e.1 ∙ sym f.1))

  pub any_raw_coincide : Coincide 𝓤 any-raw.ended (any-raw.clauses 𝓛 mem run) (λ κs r q s t. r ≡ q)
  any_raw_coincide κs a g r q s t = one 𝓤 (λ e f. e ∙ sym f)

  pub samples_lent_coincide : Coincide 𝓤 samples-lent.ended (samples-lent.clauses 𝓛 mem run) (λ κs r q s t. r ≡ q)
  samples_lent_coincide κs a g r q s t = one 𝓤 (λ e f. e ∙ sym f)

  pub allows_coincide : Coincide 𝓤 allows.ended (allows.clauses 𝓛 mem run) (λ κs r q s t. r ≡ q)
  allows_coincide κs a g r q s t = one 𝓤 (λ e f. e ∙ sym f)

  pub check_row_coincide : Coincide 𝓤 check-row.ended (check-row.clauses 𝓛 mem run) (λ κs r q s t. r ≡ q)
  check_row_coincide κs a g r q s t = one 𝓤 (λ e f. e ∙ sym f)

  pub check_rows_coincide : Coincide 𝓤 check-rows.ended (check-rows.clauses 𝓛 mem run) (λ κs r q s t. r ≡ q)
  check_rows_coincide κs a g r q s t = one 𝓤 (λ e f. e ∙ sym f)
