-- What is written into a lent slice: weights laid in from a place on, and a stretch closed up. Definitions only.
use Rattle.std.specs.Prelude.{cond, ◌&&◌, List, ◌++◌, ℕ, ◌+◌, ◌-◌, leb, length, take, drop, replicate, Float}
use Rattle.std.specs.Float.Ieee.{of_bits}
use Rattle.std.specs.Float.{binary32}
use Rattle.transform.specs.Kinds.{spliced}

-- weights ws in the place of as many, from `at` on
abbrev pub laid_at : {A : Type 0} → ℕ → List A → List A → List A
laid_at at ws l = spliced at (at + length ws) ws l

-- what stands from `at` up to `end` once the first n of it are gone: those behind them, moved down, and z in the n places that came free
abbrev pub moved_down : {A : Type 0} → A → ℕ → ℕ → ℕ → List A → List A
moved_down z at n end l = take (end - (at + n)) (drop (at + n) l) ++ replicate n z

-- of the first `end` places n gone, from `at` on
abbrev pub closed_at : {A : Type 0} → A → ℕ → ℕ → ℕ → List A → List A
closed_at z at n end l = spliced at end (moved_down z at n end l) l

-- what laying in leaves: where the weights don't fit, the slice as it was
unfoldable pub put_leaves : List Float → ℕ → List Float → List Float
put_leaves l at ws = cond (leb (at + length ws) (length l)) (laid_at at ws l) l

-- what closing up leaves, 0 in the places that came free: where there are no such places, the slice as it was
unfoldable pub close_leaves : List Float → ℕ → ℕ → ℕ → List Float
close_leaves l at n end = cond (leb (at + n) end && leb end (length l)) (closed_at (of_bits binary32 0) at n end l) l
