-- A reply as the C face gives it: its number is the call's result, and the values stand in a lent slice of three places. Definitions only.
use Rattle.std.specs.Prelude.{ℕ, Bool, cond, List, [], ◌∷◌, length, get_or, eqb}

-- the reply's slice has its three places
abbrev pub three : List ℕ → Bool
three reply = eqb (length reply) 3

-- the number of a reply, which is given as its number and then its values
abbrev pub number_of : List ℕ → ℕ
number_of said = get_or said 0 0

-- its values, the places that it does not use 0
abbrev pub values_of : List ℕ → List ℕ
values_of said = get_or said 1 0 ∷ get_or said 2 0 ∷ get_or said 3 0 ∷ []

-- what a call returns: LENT where the reply's slice has another length
abbrev pub returned : List ℕ → List ℕ → ℕ
returned reply said = cond (three reply) (number_of said) 1

-- what the reply's slice then holds
abbrev pub held : List ℕ → List ℕ → List ℕ
held reply said = cond (three reply) (values_of said) reply

-- what another lent slice then holds: as before, where the reply's slice has another length
abbrev pub kept : {A : Type 0} → List ℕ → List A → List A → List A
kept reply new old = cond (three reply) new old
