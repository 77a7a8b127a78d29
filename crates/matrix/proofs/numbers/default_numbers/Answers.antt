-- `numbers::default_numbers`: its line of the table, number by number. Assumes nothing.
use Rattle.std.proofs.Common.{rules}
use lib.Ieee.{nan}
use Rattle.matrix.specs.Numbers.{default_value}
use Rattle.matrix.proofs.Front.{made_tab}
use Rattle.matrix.proofs.Table.{numbers_are}
use Rattle.matrix.proofs.numbers.default_numbers.Goals as goal

pub returns : goal.returns
returns c =
    let k = c.args.kind in
    numbers_are k _ c.from_fn.result c.requires (made_tab _ _ c.from_fn.result (default_value k) nan (λ i y q w. search rules) 123 c.from_fn.ensures.items)
