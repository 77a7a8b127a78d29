use Rattle.bands.proofs.Patterns.{no_nan}
use Rattle.bands_cases.proofs.power.root_line.Goals as goal

pub float_from_bits-b : goal.float_from_bits-b
float_from_bits-b g c = no_nan c.args.b c.if-b-gt2139095040.false
