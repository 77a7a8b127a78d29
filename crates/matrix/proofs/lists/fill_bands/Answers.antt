-- `lists::fill_bands`: the bands are sound, so the table is left. Assumes nothing.
use Rattle.std.proofs.Common.{◌∙◌}
use Rattle.matrix.proofs.Listed.{listed_table}
use Rattle.matrix.proofs.lists.fill_bands.Goals as goal

pub returns : goal.returns
returns c = listed_table c.args.n.now c.args.l _ _ c.args.w c.args.h c.args.out.now _ c.requires.2 c.requires.1 (c.all.ensures ∙ c.list_of-list.ensures.1) c.list_of-list.ensures.0 c.dct_quant_weights.ensures.left
