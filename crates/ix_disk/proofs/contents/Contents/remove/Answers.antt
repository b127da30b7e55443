use Rattle.std.proofs.Common.{ap, refl, ◌∙◌, None}
use Rattle.ix_disk.specs.Contents.{seen_of, torn_of, become}
use Rattle.ix_disk.specs.declared.held.Held.{Held}
use Rattle.ix_disk.proofs.Places.{set_first, set_same, absent_same}
use Rattle.ix_base.proofs.ToldLemmas.{on_err_always}
use Rattle.ix_disk.proofs.contents.Contents.remove.Goals as goal

pub returns-in_default-clause-seen : goal.returns-in_default-clause-seen
returns-in_default-clause-seen c = absent_same seen_of c.args.self.now.files.items c.args.file (become None) c.in_default.ensures.missing
    refl

pub returns-in_err-remove-clause-same_seen : goal.returns-in_err-remove-clause-same_seen
returns-in_err-remove-clause-same_seen c = on_err_always _
    (set_same seen_of c.args.self.now.files.items c.args.file c.in-Some.place c.index_mut.result.now _ c.in-Some.ensures.found
    (c.remove.ensures.file ∙ ap (λ (h : Held). h.file) c.index_mut.ensures.value)
    (c.in_err-remove.ensures.err ∙ ap seen_of c.index_mut.ensures.value))

pub returns-in_err-remove-clause-torn : goal.returns-in_err-remove-clause-torn
returns-in_err-remove-clause-torn c = set_same torn_of c.args.self.now.files.items c.args.file c.in-Some.place c.index_mut.result.now _
    c.in-Some.ensures.found
    (c.remove.ensures.file ∙ ap (λ (h : Held). h.file) c.index_mut.ensures.value)
    (c.remove.ensures.torn ∙ ap torn_of c.index_mut.ensures.value)

pub returns-clause-seen : goal.returns-clause-seen
returns-clause-seen c = set_first seen_of c.args.self.now.files.items c.args.file c.in-Some.place c.index_mut.result.now _ (become None)
    c.in-Some.ensures.found
    (c.remove.ensures.file ∙ ap (λ (h : Held). h.file) c.index_mut.ensures.value)
    (c.in_ok-remove.ensures.ok)

pub returns-clause-torn : goal.returns-clause-torn
returns-clause-torn c = set_same torn_of c.args.self.now.files.items c.args.file c.in-Some.place c.index_mut.result.now _
    c.in-Some.ensures.found
    (c.remove.ensures.file ∙ ap (λ (h : Held). h.file) c.index_mut.ensures.value)
    (c.remove.ensures.torn ∙ ap torn_of c.index_mut.ensures.value)
