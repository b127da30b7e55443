use Rattle.std.proofs.Common.{ap, sym, ◌∙◌}
use Rattle.ix_disk.specs.Contents.{seen_of, torn_of, become, present}
use Rattle.ix_disk.specs.declared.held.Held.{Held}
use Rattle.ix_disk.proofs.Places.{set_first, set_same, absent_same, absent_none, first_get}
use Rattle.ix_disk.proofs.contents.Contents.settle.Goals as goal

pub returns-in_default-clause-torn : goal.returns-in_default-clause-torn
returns-in_default-clause-torn c = absent_same torn_of c.args.self.now.files.items c.args.file
    (become (present c.args.self.now.files.items c.args.file)) c.in_default.ensures.missing
    (absent_none seen_of c.args.self.now.files.items c.args.file c.in_default.ensures.missing)

pub returns-clause-seen : goal.returns-clause-seen
returns-clause-seen c = set_same seen_of c.args.self.now.files.items c.args.file c.in-Some.place c.index_mut.result.now _
    c.in-Some.ensures.found
    (c.settle.ensures.file ∙ ap (λ (h : Held). h.file) c.index_mut.ensures.value)
    (c.settle.ensures.seen ∙ ap seen_of c.index_mut.ensures.value)

pub returns-clause-torn : goal.returns-clause-torn
returns-clause-torn c = set_first torn_of c.args.self.now.files.items c.args.file c.in-Some.place c.index_mut.result.now _
    (become (present c.args.self.now.files.items c.args.file)) c.in-Some.ensures.found
    (c.settle.ensures.file ∙ ap (λ (h : Held). h.file) c.index_mut.ensures.value)
    (c.settle.ensures.torn ∙ ap seen_of c.index_mut.ensures.value
    ∙ sym (first_get seen_of c.args.self.now.files.items c.args.file c.in-Some.place c.index_mut.result.now c.in-Some.ensures.found))
