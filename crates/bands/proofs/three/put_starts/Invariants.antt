-- `three::put_starts`: exponents and starts of the ratios before p are there (`Starting`). Assumes nothing.
use Rattle.bands.proofs.Tables.{Starting}
use Rattle.bands.proofs.three.put_starts.Given as goal

abbrev pub invariant-loop-p : goal.invariant-loop-p
invariant-loop-p l = Starting l.bands l.count l.all l.at l.s l.n l.p l.band
