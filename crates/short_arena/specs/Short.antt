-- The short arena (document 02's ticket 6): what adding, looking up and dropping answer and leave. LENT; HELD, then FULL; or GONE. Definitions only.
use Rattle.std.specs.Prelude.{Result, Ok, Err, Bool, cond, ◌&&◌, List, [], ◌∷◌, ◌++◌, ℕ, ◌-◌, eqb, ltb, leb, length, take, drop, Float}
use Rattle.std.specs.Float.Ieee.{of_bits}
use Rattle.std.specs.Float.{binary32}
use Rattle.transform.specs.Kinds.{places_of}
use Rattle.slices.specs.Slices.{laid_at, closed_at}
use Rattle.short_arena.specs.declared.held.State.{State}
use Rattle.short_arena.specs.declared.arena.Part.{Part}
use Rattle.short_arena.specs.declared.arena.ShortError.{ShortError}
use Rattle.short_arena.specs.declared.arena.ShortError.TheVariants.{Lent, Held, Full, Gone}
use Rattle.short_arena.specs.Held.{held_of, state_of, is_held, single, places_in, start_in, without}
use Rattle.transform.specs.Zeros.{all_zero}

-- the number of a refusal
abbrev pub refusal : ShortError → ℕ
refusal Lent = 1
refusal Full = 13
refusal Held = 17
refusal Gone = 18

-- the number of a reply, and its values
abbrev pub short_reply : Result Part ShortError → List ℕ
short_reply (Ok p) = 0 ∷ p.first ∷ p.length ∷ []
short_reply (Err e) = refusal e ∷ []

-- the number of a reply to dropping
abbrev pub drop_reply : Result (Unit {0}) ShortError → List ℕ
drop_reply (Ok done) = 0 ∷ []
drop_reply (Err e) = refusal e ∷ []

-- a part, by its first place and its length
abbrev pub part_at : ℕ → ℕ → Part
part_at first n = record { first = first; length = n }

-- LENT is given unless: the kind is at most 16, the arena's n places at most 394,752, the count at most 17, each held one is a kind and none
-- is there twice, the arena has the places that they need, and 0 stands behind them
unfoldable pub lent_right : ℕ → State → ℕ → Bool
lent_right n s k =
    ltb k 17 && (leb n 394752 && (leb s.count 17 && (single (held_of s) && (leb (places_in (held_of s)) n && all_zero (drop s.count s.kinds)))))

-- adding, in an arena of n places, a kind with m weights: LENT, HELD, then FULL if the free places are fewer than it needs
unfoldable pub add_answer : ℕ → State → ℕ → ℕ → Result Part ShortError
add_answer n s k m =
    cond (eqb m (places_of k) && lent_right n s k)
    (cond (is_held (held_of s) k) (Err Held) (cond (ltb (n - places_in (held_of s)) (places_of k)) (Err Full) (Ok (part_at (places_in (held_of s)) (places_of k))))) (Err Lent)

-- looking a kind up: LENT, then GONE
unfoldable pub find_answer : ℕ → State → ℕ → Result Part ShortError
find_answer n s k = cond (lent_right n s k) (cond (is_held (held_of s) k) (Ok (part_at (start_in (held_of s) k) (places_of k))) (Err Gone)) (Err Lent)

-- dropping a kind: LENT, then GONE
unfoldable pub drop_answer : ℕ → State → ℕ → Result (Unit {0}) ShortError
drop_answer n s k = cond (lent_right n s k) (cond (is_held (held_of s) k) (Ok tt) (Err Gone)) (Err Lent)

-- what a call leaves: what it makes, or with a refusal what was there
abbrev pub leaves : {T E A : Type 0} → Result T E → A → A → A
leaves (Ok x) new old = new
leaves (Err e) new old = old

-- the state after adding: the kind behind the others
unfoldable pub add_state : ℕ → State → ℕ → ℕ → State
add_state n s k m = leaves (add_answer n s k m) (state_of (held_of s ++ k ∷ [])) s

-- the arena after adding: the weights behind the places in use
unfoldable pub add_arena : List Float → State → ℕ → List Float → List Float
add_arena a s k ws = leaves (add_answer (length a) s k (length ws)) (laid_at (places_in (held_of s)) ws a) a

-- the state after dropping: the other kinds
unfoldable pub drop_state : ℕ → State → ℕ → State
drop_state n s k = leaves (drop_answer n s k) (state_of (without (held_of s) k)) s

-- the arena after dropping: the later kinds' weights moved down, and 0 in the places that came free at the end
unfoldable pub drop_arena : List Float → State → ℕ → List Float
drop_arena a s k =
    leaves (drop_answer (length a) s k) (closed_at (of_bits binary32 0) (start_in (held_of s) k) (places_of k) (places_in (held_of s)) a) a

-- a held kind's weights, from where it starts
abbrev pub part_in : List Float → List ℕ → ℕ → List Float
part_in a ks k = take (places_of k) (drop (start_in ks k) a)

-- the part that comes with an answer: a refusal gives an empty one
abbrev pub part_with : Result Part ShortError → List Float → List Float
part_with r p = leaves r p []

-- what looking up shows
unfoldable pub shown : List Float → State → ℕ → List Float
shown a s k = part_with (find_answer (length a) s k) (part_in a (held_of s) k)
