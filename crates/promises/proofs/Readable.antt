-- Fields that bits can spell, the bytes that spell them, and the row that a kind's entry is read into.
use mathlib.Core.Path.{◌≡◌, sym, ap, ◌∙◌}
use mathlib.Core.List.{List, [], ◌∷◌}
use Prim.Native.Nat.{ℕ, ◌+◌, ◌*◌, ◌/◌, ◌%◌, ◌^◌, ◌≤◌, ◌<◌}
use native.Mathlib.Omega.{arith}
use lib.Pow.{shr-shr, high, low}
use Rattle.bitstream.specs.Bits.{field, found}
use Rattle.bitstream.proofs.Laws.{read_in, value_lt}
use Rattle.bitstream.proofs.Bytes.{bytes_of, length_bytes_of, field_at}
use Rattle.params.specs.Row.{on, entry}
use Rattle.params.proofs.Written.{Field, span, Spells, Sized, Written}
use Rattle.promises.proofs.ReadWritten.{Read, entry_read}

-- the fields as one number, the first the lowest
abbrev pub number_of : List Field → ℕ
number_of [] = 0
number_of (f ∷ fs) = number_of fs * 2 ^ f.width + f.value

pub spelt : (n x p : ℕ) (fs : List Field) → Sized fs → x / 2 ^ p ≡ number_of fs → p + span fs ≤ 8 * n → p + span fs < 2 ^ 64 → Spells (bytes_of n x) p fs
spelt n x p [] z e h k = tt
spelt n x p (f ∷ fs) z e h k =
    let w = f.width in
    let is : field (bytes_of n x) p w ≡ f.value = field_at n x p w (omega arith) ∙ ap (λ (y : ℕ). y % 2 ^ w) e ∙ low (number_of fs) w z.0 in
    let next : x / 2 ^ (p + w) ≡ number_of fs = sym (shr-shr x p w) ∙ ap (λ (y : ℕ). y / 2 ^ w) e ∙ high (number_of fs) w z.0 in (
      read_in (bytes_of n x) p w (omega (arith, length_bytes_of n x)) ∙ ap (λ (y : ℕ). found y (p + w)) is,
      spelt n x (p + w) fs z.1 next (omega arith) (omega arith),
    )

sized : (b : List ℕ) (p : ℕ) (fs : List Field) → Spells b p fs → Sized fs
sized b p [] l = tt
sized b p (f ∷ fs) l = (value_lt b p f.width _ l.0, sized b (p + f.width) fs l.1)

-- a row that is read is one that `Written` gives, with fields that bits can spell
pub read_written : (b : List ℕ) (kind p q s : ℕ) (row : List ℕ) → entry b kind p ≡ on q s row → (fs : List Field) × Written kind row fs × Sized fs
read_written b kind p q s row e = go (entry_read b kind p q s row e)
  where
    go : Read b kind p q row → (fs : List Field) × Written kind row fs × Sized fs
    go r = (r.fields, r.written, sized b p r.fields r.spelt)
