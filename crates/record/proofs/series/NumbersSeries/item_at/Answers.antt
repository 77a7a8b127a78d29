-- `Numbers::item_at` meets its contract. Assumes nothing.
use Rattle.record.specs.Half.{half}
use Rattle.record.proofs.HalfLaws.{half_lawful, half_bound}
use Rattle.record.proofs.Readers.{inside_text}
use Rattle.record.proofs.series.NumbersSeries.item_at.Goals as goal

pub overflow_cast-result : goal.overflow_cast-result
overflow_cast-result c = let t = c.args.text.now in record { fits = half_bound c.args.end c.in_ok-v.v (inside_text (half c.args.end) (half_lawful c.args.end) t.bytes.now t.at c.in_ok-v.v _ t.within c.in_ok-v.ensures.answer).0 }
