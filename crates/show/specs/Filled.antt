-- Rows and samples that a case names. Definitions only.
use Rattle.std.specs.Prelude.{ℕ, zero, suc, ◌+◌, ◌*◌, ◌/◌, ◌%◌, ◌^◌, List, length, ℤ, slice_set}
use Rattle.std.specs.Int.{w32}
use Rattle.std.proofs.Common.{to_z}
use Rattle.show.specs.Input.{word_at}

-- n stores, one after the other: store j puts what j at place at j, if there is such a place
unfoldable pub stored : {A : Type 0} → (ℕ → ℕ) → (ℕ → A) → ℕ → List A → List A
stored at what zero l = l
stored at what (suc j) l = slice_set (stored at what j l) (at j) (what j)

-- rows with the numbers of a list: each word is a number and, from bit 16 on, its place
abbrev pub rows_with : List ℕ → List ℕ → List ℕ
rows_with list rows = stored (λ j. word_at list j / 65536) (λ j. word_at list j % 65536) (length list / 4) rows

-- x mod m, and 0 where m is 0
unfoldable pub modulo : ℕ → ℕ → ℕ
modulo x zero = 0
modulo x (suc m) = x % suc m

-- sample p by a rule: base + (p x step mod modulus), by 2^32, read as a signed number
abbrev pub sample_at : ℕ → ℕ → ℕ → ℕ → ℤ
sample_at base step modulus p = to_z w32 ((base + modulo (p * step) modulus) % 2 ^ 32)

-- samples by a rule, each at its place
abbrev pub samples_by : ℕ → ℕ → ℕ → List ℤ → List ℤ
samples_by base step modulus samples = stored (λ p. p) (sample_at base step modulus) (length samples) samples
