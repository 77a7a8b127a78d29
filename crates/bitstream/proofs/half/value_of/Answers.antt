-- `bitstream::half::value_of` meets its contract: the magnitude by the exponent, then the sign. Assumes nothing.
use mathlib.Core.Path.{◌≡◌, ap, ◌∙◌}
use mathlib.Core.Bool.{false}
use Prim.Native.Nat.{ℕ, ◌/◌, ◌%◌, ◌^◌}
use native.Mathlib.Omega.{arith}
use borrow.Author.Tests.{le-leb, lt-leb}
use lib.Ieee.{binary32, round, neg}
use Rattle.bitstream.specs.Half.{half, size_is}
use Rattle.bitstream.proofs.HalfLaws.{neg_round, size_none, size_some}
use borrow.Author.Rules.{rules}
use Rattle.bitstream.proofs.half.value_of.Goals as goal
use Rattle.bitstream.proofs.half.value_of.Goals.{Joined-e-gt0, then-e-gt0, else-e-gt0}

-- the magnitude, where the two ways meet
magnitude : (c : Joined-e-gt0) → c.if-e-gt0.v ≡ round binary32 false (size_is (c.args.h / 1024 % 32) (c.args.h % 1024)) (2 ^ 24)
magnitude c =
    let h = c.args.h in
    elim c.if-e-gt0.branch [
      | then-e-gt0 w ↦ w.v-is ∙ w.scaled-v.ensures ∙ rw w.from.ensures (ap (λ (n : ℕ). round binary32 false n (2 ^ 24)) (size_some (h / 1024 % 32) (h % 1024) w.if-e-gt0.true))
      | else-e-gt0 w ↦ w.v-is ∙ w.scaled-v-else-e-gt0.ensures ∙ ap (λ (n : ℕ). round binary32 false n (2 ^ 24)) (size_none (h / 1024 % 32) (h % 1024) (omega arith))
    ]

pub returns-then-h-ge32768 : goal.returns-then-h-ge32768
unfolding half
returns-then-h-ge32768 c = rw (le-leb 32768 c.args.h (search rules)) (ap neg (magnitude c.before) ∙ neg_round binary32 false _ _)

pub returns-else-h-ge32768 : goal.returns-else-h-ge32768
unfolding half
returns-else-h-ge32768 c = rw (lt-leb 32768 c.args.h (search rules)) (magnitude c.before)
