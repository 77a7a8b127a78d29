-- A short arena's state as C has it, in 18 bytes: how many kinds are held, and then the kinds in the order added, 0 behind them. Definitions only.
use Rattle.std.specs.Prelude.{cond, List, ◌∷◌, ℕ, eqb, length, get_or, drop, replicate}
use Rattle.short_arena.specs.declared.held.State.{State}
use Rattle.short_arena.specs.Short.{add_answer, add_state, drop_answer, drop_state, leaves}

-- no state: more kinds are counted than there are, so that with it everything is LENT
abbrev pub no_state : State
no_state = record { count = 18; kinds = replicate 17 0 }

-- the state in 18 bytes; another number of bytes holds none
unfoldable pub state_in : List ℕ → State
state_in bytes = cond (eqb (length bytes) 18) (record { count = get_or bytes 0 0; kinds = drop 1 bytes }) no_state

-- the bytes of a state
abbrev pub bytes_of : State → List ℕ
bytes_of s = s.count ∷ s.kinds

-- what adding leaves in the state's bytes: the new state's, or with a refusal what was there
abbrev pub add_bytes : ℕ → List ℕ → ℕ → ℕ → List ℕ
add_bytes n bytes k m = leaves (add_answer n (state_in bytes) k m) (bytes_of (add_state n (state_in bytes) k m)) bytes

-- what dropping leaves there
abbrev pub drop_bytes : ℕ → List ℕ → ℕ → List ℕ
drop_bytes n bytes k = leaves (drop_answer n (state_in bytes) k) (bytes_of (drop_state n (state_in bytes) k)) bytes
