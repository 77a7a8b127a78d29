-- `three::finish_three` meets its contract: each second row, finished. Assumes nothing.
use Rattle.bands.proofs.PowerLaws.{second_range}
use Rattle.bands.proofs.three.finish_three.Goals as goal

pub finish-requires : goal.finish-requires
finish-requires c = let p = c.requires in let z = second_range _ _ _ _ p.starts.0 c.seconds-y.ensures.0 in (p.few.0, p.few.3, z.0, z.1)

pub finish-requires-2 : goal.finish-requires-2
finish-requires-2 c = let p = c.requires in let z = second_range _ _ _ _ p.starts.1 c.seconds-y.ensures.1 in (p.few.1, p.few.3, z.0, z.1)

pub finish-requires-3 : goal.finish-requires-3
finish-requires-3 c = let p = c.requires in let z = second_range _ _ _ _ p.starts.2 c.seconds-y.ensures.2 in (p.few.2, p.few.3, z.0, z.1)
