-- What a writer holds after a program wrote, and after cases were replayed. What it holds is known of a writer that says it. Definitions only.
use Rattle.std.specs.Prelude.{◌≡◌, ℕ, zero, suc, ◌≤◌, List, ◌++◌, length, take, codes, Option}
use Rattle.std.specs.Io.KnownBytes.{Appends, Keeps}
use Rattle.show.specs.Input.{word_at, named_at}

-- a program wrote of the first n bytes, for some n, and nothing was written after it
abbrev pub Ran : (List ℕ → Option (List ℕ) → Option (List ℕ) → Type 0) → List ℕ → Option (List ℕ) → Option (List ℕ) → Type 0
Ran leaves bytes before after = (n : ℕ) × (n ≤ length bytes) × (held : Option (List ℕ)) × leaves (take n bytes) before held × Keeps held after

-- the first n cases of an input were replayed: of each its name, a line end, and what its call leaves
unfoldable pub Replayed : (List ℕ → ℕ → Option (List ℕ) → Option (List ℕ) → Type 0) → List ℕ → ℕ → Option (List ℕ) → Option (List ℕ) → Type 0
Replayed leaves s zero before after = after ≡ before
Replayed leaves s (suc n) before after =
    (held : Option (List ℕ)) × Replayed leaves s n before held
    × (named : Option (List ℕ)) × Appends held named (named_at s (word_at s (suc n)) 0 ++ codes "\n")
    × leaves s (word_at s (suc n)) named after
