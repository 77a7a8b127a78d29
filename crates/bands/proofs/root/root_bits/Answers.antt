-- `root_bits` meets its contract: the two fields of the pattern give the number of units. Assumes nothing.
use Rattle.std.proofs.Common.{sym, ◌∙◌, arith}
use Rattle.bands.proofs.RootFields.{root_low, root_high}
use Rattle.bands.proofs.root.root_bits.Goals as goal

pub returns-then-field-eq0 : goal.returns-then-field-eq0
returns-then-field-eq0 c = (c.root_units.ensures.0 ∙ sym (root_low c.args.b c.requires.0 c.requires.1 c.if-field-eq0.true), c.root_units.ensures.1)

pub returns-else-field-eq0 : goal.returns-else-field-eq0
returns-else-field-eq0 c = (c.root_units-else-field-eq0.ensures.0 ∙ sym (root_high c.args.b c.requires.1 (omega arith)), c.root_units-else-field-eq0.ensures.1)
