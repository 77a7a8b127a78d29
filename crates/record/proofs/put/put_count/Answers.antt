-- `record::put::put_count` meets its contract. Assumes nothing.
use Rattle.record.proofs.Stores.{digits_length}
use native.Mathlib.Omega.{arith}
use Rattle.record.proofs.LineStores.{count_text}
use Rattle.record.proofs.put.put_count.Goals as goal

pub overflow_add-result : goal.overflow_add-result
overflow_add-result c = let a = c.args in record { fits = omega (arith, c.put_digits-p.ensures.place, digits_length a.n a.n (omega arith)) }

pub returns : goal.returns
returns c = let a = c.args in let o = count_text a.out.now _ _ a.at a.n a.end _ c.put_digits-p.ensures.place c.put_digits-p.ensures.bytes c.store.ensures in record { place = o.0; bytes = o.1 }
