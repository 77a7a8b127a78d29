-- `spot::index`: the position is a `Cut`. Assumes nothing.
use Rattle.bands.proofs.Truncate.{truncates}
use Rattle.bands.proofs.spot.index.Goals as goal

pub truncating_f32_to_u64-requires : goal.truncating_f32_to_u64-requires
truncating_f32_to_u64-requires c =
    let t = truncates c.args.count c.args.p c.requires.0 c.requires.1 in
    record { lower_bound = t.0; upper_bound = t.1 }
