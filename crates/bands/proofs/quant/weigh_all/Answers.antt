-- `quant::weigh_all`: the bands of the three channels, over the grid. Assumes nothing.
use Rattle.std.proofs.Common.{◌∙◌}
use Rattle.bands.proofs.QuantLaws.{table_is}
use Rattle.bands.proofs.quant.weigh_all.Goals as goal

pub returns : goal.returns
returns c = c.fill.ensures ∙ table_is c.args.numbers.now c.args.count c.args.w c.args.h _ _ c.requires.1 c.all_bands-bands.ensures
