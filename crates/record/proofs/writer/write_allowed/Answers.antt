-- `record::writer::write_allowed` meets its contract. Assumes nothing.
use Rattle.record.specs.Description.{record_of}
use Rattle.record.proofs.ReadPlaces.{none_before}
use Rattle.record.proofs.SetStores.{fitted_room, fitted_done}
use Rattle.record.proofs.writer.write_allowed.Goals as goal

pub returns-then-room-length : goal.returns-then-room-length
returns-then-room-length c = let a = c.args in let o = fitted_room (record_of a.description.rows.now a.description.samples.now) a.buffer.now _ _ _ _ c.emit-length.ensures _ c.if-room-length.true (none_before c.emit-length.new.out _ c.emit-length.auto.out) in record { answer = o.0; buffer = o.1 }

pub returns : goal.returns
returns c = let a = c.args in let o = fitted_done (record_of a.description.rows.now a.description.samples.now) a.buffer.now _ _ _ _ c.emit-length.ensures _ _ _ c.if-room-length.false (none_before c.emit-length.new.out _ c.emit-length.auto.out) c.emit.ensures in record { answer = o.0; buffer = o.1 }
