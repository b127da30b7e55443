use Rattle.std.proofs.Common.{refl}
use Rattle.ix_base.specs.Lent.{lent_event}
use Rattle.ix_disk.specs.Image.{bytes_in}
use Rattle.ix_export.proofs.Progress.{stops_in_event, on_bad}
use Rattle.ix_export.proofs.export.Export.put_event.Goals as goal

pub returns-in-Err-put-clause-begun : goal.returns-in-Err-put-clause-begun
returns-in-Err-put-clause-begun g c = λ image events told current has.
    let e = rw c.in-Ok-Some.field-0-is at c.in-Ok-Some.ensures in
    let event = lent_event c.in-Ok-Some.event in
    stops_in_event c.args.self.now.writer.range events event c.args.at c.in-Ok-Some.next c.args.bucket.now.bytes
    (bytes_in image c.args.bucket.now.file) _ _
    e.after.1 (e.found image told current) e.size has c.in-Err-put.ensures.begun

pub returns-in-Ok-clause-taken : goal.returns-in-Ok-clause-taken
returns-in-Ok-clause-taken g c = λ image told current.
    let e = rw c.in-Ok-Some.field-0-is at c.in-Ok-Some.ensures in
    record {
      event = lent_event c.in-Ok-Some.event;
      is_record = e.found image told current;
      size = e.size;
      exported = c.in-Ok.ensures.exported;
    }

pub returns-in-Err-clause-named : goal.returns-in-Err-clause-named
returns-in-Err-clause-named g c = on_bad c.args.bucket.now.file c.in-Err.fault _ _ _ c.fault_of.ensures (λ place is. (refl, is))
    c.in-Err.ensures.place

pub returns-in-Err-clause-unwritten : goal.returns-in-Err-clause-unwritten
returns-in-Err-clause-unwritten g c = on_bad c.args.bucket.now.file c.in-Err.fault _ _ _ c.fault_of.ensures (λ place is. refl)
    c.in-Err.ensures.place

pub returns-in-Err-clause-bad : goal.returns-in-Err-clause-bad
returns-in-Err-clause-bad g c = on_bad c.args.bucket.now.file c.in-Err.fault _ _ _ c.fault_of.ensures (λ place none. none)
    c.in-Err.ensures.bad
