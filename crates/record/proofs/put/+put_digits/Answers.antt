-- `record::put::put_digits` meets its contract. Assumes nothing.
use Prim.Native.Nat.{◌/◌}
use native.Mathlib.Omega.{arith}
use Rattle.record.proofs.Stores.{digits_length, digits_none, digits_more}
use Rattle.record.proofs.put.+put_digits.Goals as goal

pub returns-then-n-eq0 : goal.returns-then-n-eq0
returns-then-n-eq0 t c = let a = c.args in let o = digits_none a.out.now a.at a.n c.if-n-eq0.true in record { place = o.0; bytes = o.1 }

pub overflow_add-result : goal.overflow_add-result
overflow_add-result t c = let n = c.args.n in record { fits = omega (arith, c.put_digits-p.ensures.place, digits_length (n / 10) (n / 10) (omega arith)) }

pub returns : goal.returns
returns t c = let o = digits_more _ _ _ _ _ _ c.if-n-eq0.false c.put_digits-p.ensures.place c.put_digits-p.ensures.bytes c.store.ensures in record { place = o.0; bytes = o.1 }
