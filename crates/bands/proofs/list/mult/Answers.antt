-- `mult` is `mult_of`. Assumes nothing.
use Rattle.std.proofs.Common.{Bool, cond, sym, ap}
use lib.Ieee.{Float, binary32, add, sub, div, of_bits}
use Rattle.bands.specs.Bands.{one, mult_of}
use Rattle.bands.proofs.list.mult.Goals as goal

abbrev choice : Float → Bool → Float
choice x t = cond t (add binary32 one x) (div binary32 one (sub binary32 one x))

pub returns-then-x : goal.returns-then-x
unfolding mult_of of_bits
returns-then-x c = sym (ap (choice c.args.x) c.if-x.true)

pub returns-else-x : goal.returns-else-x
unfolding mult_of of_bits
returns-else-x c = sym (ap (choice c.args.x) c.if-x.false)
