-- `Bands::put_item` meets its contract. Assumes nothing.
use native.Mathlib.Omega.{arith}
use Rattle.record.proofs.LineStores.{count_short}
use Rattle.record.proofs.series.BandsSeries.put_item.Goals as goal

pub returns-clause-short : goal.returns-clause-short
returns-clause-short c = omega (arith, c.put_count.ensures.place, count_short c.from.result c.args.end (omega (arith, c.from.ensures, c.ranges.v.fits)))
