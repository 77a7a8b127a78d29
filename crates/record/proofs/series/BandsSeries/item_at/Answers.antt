-- `Bands::item_at` meets its contract. Assumes nothing.
use native.Mathlib.Omega.{arith}
use Rattle.record.proofs.SignPlaces.{number_limit}
use Rattle.record.proofs.series.BandsSeries.item_at.Goals as goal

pub overflow_cast-result : goal.overflow_cast-result
overflow_cast-result c = let t = c.args.text.now in record { fits = omega (arith, number_limit 16 c.args.end t.bytes.now t.at c.in_ok-v.v _ c.requires.0 (omega arith) t.within c.in_ok-v.ensures.answer) }
