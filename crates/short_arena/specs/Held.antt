-- The kinds that a short arena holds, in the order added: which, how many places they need, and where each starts. Definitions only.
use Rattle.std.specs.Prelude.{Bool, true, false, cond, not, ◌&&◌, ◌||◌, List, [], ◌∷◌, ◌++◌, ℕ, ◌+◌, ◌-◌, eqb, ltb, length, take, replicate}
use Rattle.transform.specs.Kinds.{places_of}
use Rattle.short_arena.specs.declared.held.State.{State}

-- the kinds held: as many as are counted
abbrev pub held_of : State → List ℕ
held_of s = take s.count s.kinds

-- the state in which these are held, 0 behind them
abbrev pub state_of : List ℕ → State
state_of ks = record { count = length ks; kinds = ks ++ replicate (17 - length ks) 0 }

-- whether a kind is among them
unfoldable pub is_held : List ℕ → ℕ → Bool
is_held [] k = false
is_held (j ∷ ks) k = eqb j k || is_held ks k

-- each is a kind, and none is there twice
unfoldable pub single : List ℕ → Bool
single [] = true
single (j ∷ ks) = ltb j 17 && (not (is_held ks j) && single ks)

-- the sum of a number over them
unfoldable pub sum_over : (ℕ → ℕ) → List ℕ → ℕ
sum_over f [] = 0
sum_over f (j ∷ ks) = f j + sum_over f ks

-- the places in use: 3 x width x height for each
abbrev pub places_in : List ℕ → ℕ
places_in ks = sum_over places_of ks

-- where a kind starts: after the places of those added before it
unfoldable pub start_in : List ℕ → ℕ → ℕ
start_in [] k = 0
start_in (j ∷ ks) k = cond (eqb j k) 0 (places_of j + start_in ks k)

-- the kinds but one
unfoldable pub without : List ℕ → ℕ → List ℕ
without [] k = []
without (j ∷ ks) k = cond (eqb j k) (without ks k) (j ∷ without ks k)
