-- For theorems: a list of calls, each handed the arena and the state that the last one left, and beside them the weights that each kind was
-- added with. Definitions only.
use Rattle.std.specs.Prelude.{Result, ◌≡◌, Bool, true, false, cond, List, [], ◌∷◌, ℕ, zero, suc, ◌+◌, eqb, length, Float}
use Rattle.std.proofs.Math.Option.{Option, none, some}
use Rattle.transform.specs.Kinds.{places_of}
use Rattle.short_arena.specs.declared.held.State.{State}
use Rattle.short_arena.specs.declared.arena.Part.{Part}
use Rattle.short_arena.specs.declared.arena.ShortError.{ShortError}
use Rattle.short_arena.specs.Held.{state_of}
use Rattle.short_arena.specs.Short.{lent_right, add_answer, add_state, add_arena, find_answer, shown, drop_answer, drop_state, drop_arena, leaves}

-- what adding m weights asks for before HELD and FULL: as many as the kind has, and the rest lent right
abbrev pub AddRight : ℕ → State → ℕ → ℕ → Type 0
AddRight n s k m = (m ≡ places_of k) × (lent_right n s k ≡ true)

-- a call: a kind added with these weights, looked up, or dropped
pub data Call : Type 0 where
  adding : (kind : ℕ) (weights : List Float) → Call
  finding dropping : (kind : ℕ) → Call

-- for each kind the weights that it was added with, if it was and was not dropped since
abbrev pub Noted : Type 0
Noted = ℕ → Option (List Float)

-- one kind's weights noted, or its note taken away
abbrev pub note : Noted → ℕ → Option (List Float) → Noted
note w k x j = cond (eqb j k) x (w j)

-- what the calls so far have left
pub record Left : Type 0 where
  pub arena : List Float
  pub state : State
  pub noted : Noted

-- one call more: the arena and the state as its contract says, and its note if it was DONE
abbrev pub call : Call → Left → Left
call (adding k ws) d =
    record {
      arena = add_arena d.arena d.state k ws;
      state = add_state (length d.arena) d.state k (length ws);
      noted = leaves (add_answer (length d.arena) d.state k (length ws)) (note d.noted k (some ws)) d.noted;
    }
call (finding k) d = d
call (dropping k) d =
    record {
      arena = drop_arena d.arena d.state k;
      state = drop_state (length d.arena) d.state k;
      noted = leaves (drop_answer (length d.arena) d.state k) (note d.noted k none) d.noted;
    }

-- all of them
abbrev pub calls : List Call → Left → Left
calls [] d = d
calls (c ∷ cs) d = calls cs (call c d)

-- a beginning: any arena, with nothing held
abbrev pub begun : List Float → Left
begun a = record { arena = a; state = state_of []; noted = λ k. none }

-- the weights that looking up shows, with DONE
abbrev pub with_done : Result Part ShortError → List Float → Option (List Float)
with_done r p = leaves r (some p) none

-- what looking a kind up shows
abbrev pub seen : Left → ℕ → Option (List Float)
seen d k = with_done (find_answer (length d.arena) d.state k) (shown d.arena d.state k)

-- whether something is noted
abbrev pub is_noted : Option (List Float) → Bool
is_noted none = false
is_noted (some ws) = true

-- a number summed over 0, .., n - 1
unfoldable pub sum_below : (ℕ → ℕ) → ℕ → ℕ
sum_below f zero = 0
sum_below f (suc n) = sum_below f n + f n

-- the places of the kinds that were added and not dropped since
abbrev pub noted_places : Left → ℕ
noted_places d = sum_below (λ k. cond (is_noted (d.noted k)) (places_of k) 0) 17
