-- Only for the contracts of private functions: a reply in hand as the program has it, from its number and values; a state on its way to bytes.
use Rattle.std.specs.Prelude.{ℕ, ◌<◌, cond, List, eqb, length, get_or}
use Rattle.short_arena.specs.declared.held.State.{State}
use Rattle.capi.specs.Bytes.{bytes_of}
use Rattle.capi.specs.declared.reply.Said.{Said}

-- a reply as the code holds it: its number and three values
abbrev pub said_of : List ℕ → Said
said_of l = record { no = get_or l 0 0; first = get_or l 1 0; second = get_or l 2 0; third = get_or l 3 0 }

-- a state whose numbers are bytes
pub record Small (s : State) : Type 0 where
  pub count : s.count < 256
  pub kinds : (i : ℕ) → get_or s.kinds i 0 < 256

-- 18 bytes with a state put into them; another number of bytes stays as it is
unfoldable pub put_bytes : List ℕ → State → List ℕ
put_bytes bytes s = cond (eqb (length bytes) 18) (bytes_of s) bytes
