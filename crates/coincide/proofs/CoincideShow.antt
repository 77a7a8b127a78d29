-- Crate `show`: any two results that a public function's contract allows coincide, and what they leave in each lent slice. Assumes nothing.
use mathlib.Core.Path.{◌≡◌, sym, ◌∙◌}
use Rattle.coincide.proofs.Facts.{Ura, SProp, Fun, Memory, Routine, Coincide, one}
use Rattle.show.specs.contracts.Case.new as new
use Rattle.show.specs.contracts.Case.word as case-word
use Rattle.show.specs.contracts.Case.field as field
use Rattle.show.specs.contracts.Case.number as number
use Rattle.show.specs.contracts.Case.named as named
use Rattle.show.specs.contracts.Case.listed as listed
use Rattle.show.specs.contracts.Case.rows_listed as rows-listed
use Rattle.show.specs.contracts.Case.fill_by_rule as fill-by-rule
use Rattle.show.specs.contracts.signed as signed
use Rattle.show.specs.contracts.fill_samples as fill-samples
use Rattle.show.specs.contracts.is_refused as is-refused
use Rattle.show.specs.contracts.rest as rest
use Rattle.show.specs.contracts.first as first
use Rattle.show.specs.contracts.first_mut as first-mut
use Rattle.show.specs.contracts.total_by as total-by
use Rattle.show.specs.contracts.word as word
use types.Logic.{Logic}
use denote.RattleType.{RattleType}
use denote.Builtin.{u16, i32}

module _ {M : Type 1} {𝓤 : Ura M} (𝓛 : Logic 𝓤) (mem : Memory → SProp 𝓤) (run : Routine → Fun 𝓤) where
  pub field_coincide : Coincide 𝓤 field.ended (field.clauses 𝓛 mem run) (λ κs r q s t. r ≡ q)
  field_coincide κs a g r q s t = one 𝓤 (λ e f. e ∙ sym f)

  pub named_coincide : Coincide 𝓤 named.ended (named.clauses 𝓛 mem run) (λ κs r q s t. r.now ≡ q.now)
  named_coincide κs a g r q s t = one 𝓤 (λ e f. e ∙ sym f)

  pub listed_coincide : Coincide 𝓤 listed.ended (listed.clauses 𝓛 mem run) (λ κs r q s t. r.now ≡ q.now)
  listed_coincide κs a g r q s t = one 𝓤 (λ e f. e ∙ sym f)

  pub rows_listed_coincide : Coincide 𝓤 rows-listed.ended (rows-listed.clauses 𝓛 mem run) (λ κs r q s t. r ≡ q)
  rows_listed_coincide κs a g r q s t = one 𝓤 (λ e f. e ∙ sym f)

  pub fill_by_rule_coincide : Coincide 𝓤 fill-by-rule.ended (fill-by-rule.clauses 𝓛 mem run) (λ κs r q s t. s.1.0.now ≡ t.1.0.now)
  fill_by_rule_coincide κs a g r q s t = one 𝓤 (λ e f. e ∙ sym f)

  pub signed_coincide : Coincide 𝓤 signed.ended (signed.clauses 𝓛 mem run) (λ κs r q s t. r ≡ q)
  signed_coincide κs a g r q s t = one 𝓤 (λ e f. e ∙ sym f)

  pub fill_samples_coincide : Coincide 𝓤 fill-samples.ended (fill-samples.clauses 𝓛 mem run) (λ κs r q s t. s.0.now ≡ t.0.now)
  fill_samples_coincide κs a g r q s t = one 𝓤 (λ e f. e ∙ sym f)

  pub is_refused_coincide : Coincide 𝓤 is-refused.ended (is-refused.clauses 𝓛 mem run) (λ κs r q s t. r ≡ q)
  is_refused_coincide κs a g r q s t = one 𝓤 (λ e f. e ∙ sym f)

  pub rest_coincide : Coincide 𝓤 rest.ended (rest.clauses 𝓛 mem run) (λ κs r q s t. r.now ≡ q.now)
  rest_coincide κs a g r q s t = one 𝓤 (λ e f. e ∙ sym f)

  pub first_coincide : (T : RattleType) → Coincide 𝓤 (first.ended T) (first.clauses T 𝓛 mem run) (λ κs r q s t. r.now ≡ q.now)
  first_coincide T κs a g r q s t = one 𝓤 (λ e f. e ∙ sym f)

  pub first_u16_coincide : Coincide 𝓤 (first.ended u16) (first.clauses u16 𝓛 mem run) (λ κs r q s t. r.now ≡ q.now)
  first_u16_coincide = first_coincide u16

  pub first_i32_coincide : Coincide 𝓤 (first.ended i32) (first.clauses i32 𝓛 mem run) (λ κs r q s t. r.now ≡ q.now)
  first_i32_coincide = first_coincide i32

  pub first_mut_coincide : (T : RattleType) → Coincide 𝓤 (first-mut.ended T) (first-mut.clauses T 𝓛 mem run) (λ κs r q s t. r.now ≡ q.now)
  first_mut_coincide T κs a g r q s t = one 𝓤 (λ e f. e ∙ sym f)

  pub case_new_coincide : Coincide 𝓤 new.ended (new.clauses 𝓛 mem run) (λ κs r q s t. r ≡ q)
  case_new_coincide κs a g r q s t = one 𝓤 (λ e f. e ∙ sym f)

  pub case_word_coincide : Coincide 𝓤 case-word.ended (case-word.clauses 𝓛 mem run) (λ κs r q s t. r ≡ q)
  case_word_coincide κs a g r q s t = one 𝓤 (λ e f. e ∙ sym f)

  pub case_number_coincide : Coincide 𝓤 number.ended (number.clauses 𝓛 mem run) (λ κs r q s t. r ≡ q)
  case_number_coincide κs a g r q s t = one 𝓤 (λ e f. e ∙ sym f)

  pub total_by_coincide : (N Item : RattleType) (n n' item item' : _) → Coincide 𝓤 (total-by.ended N Item n n' item item') (total-by.clauses N Item n n' item item' 𝓛 mem run) (λ κs r q s t. r ≡ q)
  total_by_coincide N Item n n' item item' κs a g r q s t = one 𝓤 (λ e f. e ∙ sym f)

  pub word_coincide : Coincide 𝓤 word.ended (word.clauses 𝓛 mem run) (λ κs r q s t. r ≡ q)
  word_coincide κs a g r q s t = one 𝓤 (λ e f. e ∙ sym f)
