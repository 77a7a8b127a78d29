-- `corner::corner_numbers`: number by number. Assumes nothing.
use Rattle.std.proofs.Common.{ℕ, ◌+◌, ◌/◌, ◌%◌, rules}
use lib.Ieee.{Float, nan}
use Rattle.matrix.specs.declared.numbers.Numbers.{Numbers}
use Rattle.matrix.specs.Numbers.{number_of}
use Rattle.matrix.proofs.Front.{made_tab}
use Rattle.matrix.proofs.corner.corner_numbers.Goals as goal

abbrev one_of : Numbers → ℕ → Float
one_of n j = number_of n (j / 4) (5 + j % 4)

pub returns : goal.returns
returns c = made_tab _ _ c.from_fn.result (one_of c.args.n.now) nan (λ i y q k. search rules) 12 c.from_fn.ensures.items
