use Rattle.std.proofs.Common.{◌≡◌, length, arith}
use Rattle.std.proofs.lemmas.List.{with_items_is}
use Rattle.ix_conf.specs.Walk.{byte_then}
use Rattle.ix_conf.proofs.MarkLemmas.{marks_byte, marks_same}
use Rattle.ix_conf.proofs.names.with_byte.Goals as goal

pub returns-clause-leads : goal.returns-clause-leads
returns-clause-leads c ask m =
    let name = c.args.name.now in
    let new = c.ask_byte.new.marks in
    let old = c.deref_mut.result.now in
    let long : length new ≡ length old = omega (arith, c.ask_byte.auto.marks) in
    let before = marks_same name ask c.args.top.leads.items old c.deref_mut.ensures.value m in
    let marks = marks_byte name c.args.fold c.args.byte ask old new before long c.ask_byte.ensures.each c.ask_byte.ensures.last in
    marks_same name (byte_then c.args.fold c.args.byte ask) new _
    (with_items_is c.args.top.leads new (omega (arith, long, c.deref_mut.ensures.len))) marks
