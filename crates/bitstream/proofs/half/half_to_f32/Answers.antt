-- `bitstream::half::half_to_f32` meets its contract: exponent 31 is refused, and else the value is given. Assumes nothing.
use borrow.Author.Rules.{rules}
use Rattle.bitstream.specs.Half.{half_answer}
use Rattle.bitstream.proofs.half.half_to_f32.Goals as goal

pub returns-then-h-eq31 : goal.returns-then-h-eq31
unfolding half_answer
returns-then-h-eq31 c = search rules

pub returns : goal.returns
unfolding half_answer
returns c = search rules
