use Rattle.std.proofs.lemmas.Result.{IfOk-weaker}
use Rattle.ix_conf.specs.Walk.{byte_then, bytes_then}
use Rattle.std.proofs.Common.{true, false}
use Rattle.ix_conf.proofs.MarkLemmas.{level_changed, level_closed, level_barred, level_opened}
use Rattle.ix_conf.proofs.names.step_back.Goals as goal

pub returns-in-Bar : goal.returns-in-Bar
returns-in-Bar c = rw c.in-Bar.is (IfOk-weaker c.bar.result _ _
    (λ new is. level_barred c.args.name.now c.args.top new c.args.below.now.items is) c.bar.ensures)

pub returns-in-Open : goal.returns-in-Open
returns-in-Open c = rw c.in-Open.is (level_opened c.args.name.now c.args.top c.open.result c.args.below.now.items c.open.new.below.items
    c.open.ensures)

pub returns-in-Close : goal.returns-in-Close
returns-in-Close c = rw c.in-Close.is (IfOk-weaker c.close.result _ _
    (λ new is. level_closed c.args.name.now c.args.top new c.args.below.now.items c.close.new.below.items is.0 is.1 is.2) c.close.ensures)

pub returns-in-Byte : goal.returns-in-Byte
returns-in-Byte c =
    rw c.in-Byte.is (level_changed c.args.name.now (byte_then c.args.fold c.in-Byte.byte) c.args.top c.with_byte.result
    c.args.below.now.items
    c.with_byte.ensures.leads c.with_byte.ensures.others)

pub returns-in-Star : goal.returns-in-Star
returns-in-Star c =
    rw c.in-Star.is (level_changed c.args.name.now (bytes_then false) c.args.top c.with_bytes.result c.args.below.now.items
    c.with_bytes.ensures.leads c.with_bytes.ensures.others)

pub returns-in-Dots : goal.returns-in-Dots
returns-in-Dots c =
    rw c.in-Dots.is (level_changed c.args.name.now (bytes_then true) c.args.top c.with_bytes-in-Dots.result c.args.below.now.items
    c.with_bytes-in-Dots.ensures.leads c.with_bytes-in-Dots.ensures.others)
