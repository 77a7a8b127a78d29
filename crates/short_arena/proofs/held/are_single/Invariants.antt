-- `short_arena::held::are_single` meets its contract: what is left from here is what was asked. Assumes nothing.
use Rattle.std.proofs.Common.{◌≡◌, drop}
use Rattle.short_arena.specs.Held.{single}
use Rattle.short_arena.proofs.held.are_single.Given as goal

abbrev pub invariant-loop-i : goal.invariant-loop-i
invariant-loop-i l = single (drop l.i l.held) ≡ single l.held
