-- `Samples::put_item` meets its contract. Assumes nothing.
use mathlib.Core.Path.{subst⁻¹}
use native.Mathlib.Omega.{arith}
use mir.Syntax.{w32}
use mir.Val.{SFits, to_z, of_z}
use mir.Facts.{to_z-of_z}
use Rattle.record.proofs.ItemStores.{signed_length}
use Rattle.record.proofs.series.SamplesSeries.put_item.Goals as goal

pub returns-clause-short : goal.returns-clause-short
returns-clause-short c =
    let f : SFits w32 c.args.v = c.ranges.v in
    omega (arith, c.put_sample.ensures.place, signed_length c.args.end (to_z w32 (of_z w32 c.args.v)) (subst⁻¹ (SFits w32) (to_z-of_z f) f))
