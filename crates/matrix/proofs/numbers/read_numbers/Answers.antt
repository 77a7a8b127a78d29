-- `numbers::read_numbers` meets its contract. Assumes nothing.
use Rattle.std.proofs.Common.{ℕ, ◌+◌, true, List, get_or, ap, rules}
use lib.Ieee.{Float, nan}
use Rattle.bitstream.specs.Half.{half}
use Rattle.matrix.specs.declared.numbers.Numbers.{Numbers}
use Rattle.matrix.proofs.Front.{made_tab}
use Rattle.matrix.proofs.numbers.read_numbers.Goals as goal

abbrev made : List ℕ → List Float → Numbers
made row v = record { read = true; mode = get_or row 0 0; first = get_or row 1 0; second = get_or row 2 0; values = v }

pub returns : goal.returns
returns c = ap (made c.args.row.now) (made_tab _ _ c.from_fn.result (λ i. half (get_or c.args.row.now (3 + i) 0)) nan (λ i y q k. search rules) 123 c.from_fn.ensures.items)
