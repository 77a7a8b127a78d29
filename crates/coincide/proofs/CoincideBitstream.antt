-- Crate `bitstream`: any two results that a public function's contract allows coincide, and what they leave in each lent slice. Assumes nothing.
use mathlib.Core.Path.{◌≡◌, sym, ◌∙◌}
use Rattle.coincide.proofs.Facts.{Ura, SProp, Fun, Memory, Routine, Coincide, one}
use Rattle.bitstream.specs.contracts.half_to_f32 as half-to-f32
use Rattle.bitstream.specs.contracts.bit_count as bit-count
use Rattle.bitstream.specs.contracts.read_bits as read-bits
use Rattle.bitstream.specs.contracts.Bitstream.new as Bitstream-new
use types.Logic.{Logic}

module _ {M : Type 1} {𝓤 : Ura M} (𝓛 : Logic 𝓤) (mem : Memory → SProp 𝓤) (run : Routine → Fun 𝓤) where
  pub half_to_f32_coincide : Coincide 𝓤 half-to-f32.ended (half-to-f32.clauses 𝓛 mem run) (λ κs r q s t. r ≡ q)
  half_to_f32_coincide κs a g r q s t = one 𝓤 (λ e f. e ∙ sym f)

  pub bit_count_coincide : Coincide 𝓤 bit-count.ended (bit-count.clauses 𝓛 mem run) (λ κs r q s t. r ≡ q)
  bit_count_coincide κs a g r q s t = one 𝓤 (λ e f. e ∙ sym f)

  pub read_bits_coincide : Coincide 𝓤 read-bits.ended (read-bits.clauses 𝓛 mem run) (λ κs r q s t. r ≡ q)
  read_bits_coincide κs a g r q s t = one 𝓤 (λ e f. e ∙ sym f)

  pub bitstream_new_coincide : Coincide 𝓤 Bitstream-new.ended (Bitstream-new.clauses 𝓛 mem run) (λ κs r q s t. r ≡ q)
  bitstream_new_coincide κs a g r q s t = one 𝓤 (λ e f. e ∙ sym f)
