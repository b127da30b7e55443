use Rattle.std.proofs.Common.{ap, refl, ◌∙◌}
use Rattle.ix_disk.specs.Contents.{seen_of, torn_of, ones_in}
use Rattle.ix_disk.specs.declared.held.Held.{Held}
use Rattle.ix_disk.proofs.Places.{set_first, set_same, absent_same}
use Rattle.ix_base.proofs.ToldLemmas.{on_err_always}
use Rattle.ix_disk.proofs.contents.Contents.mark.Goals as goal

pub returns-in_default-clause-torn : goal.returns-in_default-clause-torn
returns-in_default-clause-torn c = absent_same torn_of c.args.self.now.files.items c.args.file (ones_in c.args.at c.args.count)
    c.in_default.ensures.missing refl

pub returns-in_err-mark-clause-seen : goal.returns-in_err-mark-clause-seen
returns-in_err-mark-clause-seen c = set_same seen_of c.args.self.now.files.items c.args.file c.in-Some.place c.index_mut.result.now _
    c.in-Some.ensures.found
    (c.mark.ensures.file ∙ ap (λ (h : Held). h.file) c.index_mut.ensures.value)
    (c.mark.ensures.seen ∙ ap seen_of c.index_mut.ensures.value)

pub returns-in_err-mark-clause-same_torn : goal.returns-in_err-mark-clause-same_torn
returns-in_err-mark-clause-same_torn c = on_err_always _
    (set_same torn_of c.args.self.now.files.items c.args.file c.in-Some.place c.index_mut.result.now _ c.in-Some.ensures.found
    (c.mark.ensures.file ∙ ap (λ (h : Held). h.file) c.index_mut.ensures.value)
    (c.in_err-mark.ensures.err ∙ ap torn_of c.index_mut.ensures.value))

pub returns-clause-seen : goal.returns-clause-seen
returns-clause-seen c = set_same seen_of c.args.self.now.files.items c.args.file c.in-Some.place c.index_mut.result.now _
    c.in-Some.ensures.found
    (c.mark.ensures.file ∙ ap (λ (h : Held). h.file) c.index_mut.ensures.value)
    (c.mark.ensures.seen ∙ ap seen_of c.index_mut.ensures.value)

pub returns-clause-torn : goal.returns-clause-torn
returns-clause-torn c = set_first torn_of c.args.self.now.files.items c.args.file c.in-Some.place c.index_mut.result.now _
    (ones_in c.args.at c.args.count) c.in-Some.ensures.found
    (c.mark.ensures.file ∙ ap (λ (h : Held). h.file) c.index_mut.ensures.value)
    (c.in_ok-mark.ensures.ok ∙ ap (λ (h : Held). ones_in c.args.at c.args.count (torn_of h)) c.index_mut.ensures.value)
