-- `params::read::put_row` meets its contract: what is copied into the part is the row. Assumes nothing.
use native.Mathlib.Omega.{arith}
use borrow.Author.Rules.{rules}
use Rattle.std.proofs.lemmas.Slice.{put_mid-paste}
use Rattle.params.proofs.read.put_row.Goals as goal

pub returns : goal.returns
returns c = put_mid-paste _ _ _ _ c.args.row.now 128 c.copy_from_slice.ensures.after (omega arith) (search rules)
