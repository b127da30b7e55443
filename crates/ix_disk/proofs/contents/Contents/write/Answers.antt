use Rattle.std.proofs.Common.{◌≤◌, ℕ, List, Option, length, ap, sym, subst, ◌∙◌}
use Rattle.ix_disk.specs.Image.{content}
use Rattle.ix_disk.specs.Contents.{seen_of, torn_of, over, ones_in, changed}
use Rattle.ix_disk.specs.declared.held.Held.{Held}
use Rattle.ix_disk.proofs.Places.{set_first, set_same_after, first_get}
use Rattle.ix_base.proofs.ToldLemmas.{on_err_always}
use Rattle.ix_disk.proofs.contents.Contents.write.Goals as goal

pub write-requires : goal.write-requires
write-requires c =
    let there = sym (c.place_made.ensures.seen c.args.file)
    ∙ first_get seen_of c.place_made.new.self.files.items c.args.file c.in_ok-place.place c.index_mut.result.now c.in_ok-place.ensures.found
    ∙ ap seen_of (sym c.index_mut.ensures.value) in
    subst (λ (o : Option (List ℕ)). c.args.at ≤ length (content o)) there c.requires

pub returns-in_err-write-clause-same_seen : goal.returns-in_err-write-clause-same_seen
returns-in_err-write-clause-same_seen c = on_err_always _
    (set_same_after seen_of c.args.self.now.files.items c.place_made.new.self.files.items c.args.file c.in_ok-place.place
    c.index_mut.result.now _ c.place_made.ensures.seen c.in_ok-place.ensures.found
    (c.write.ensures.file ∙ ap (λ (h : Held). h.file) c.index_mut.ensures.value)
    (c.in_err-write.ensures.err ∙ ap seen_of c.index_mut.ensures.value))

pub returns-in_err-write-clause-same_torn : goal.returns-in_err-write-clause-same_torn
returns-in_err-write-clause-same_torn c = on_err_always _
    (set_same_after torn_of c.args.self.now.files.items c.place_made.new.self.files.items c.args.file c.in_ok-place.place
    c.index_mut.result.now _ c.place_made.ensures.torn c.in_ok-place.ensures.found
    (c.write.ensures.file ∙ ap (λ (h : Held). h.file) c.index_mut.ensures.value)
    (c.in_err-write.ensures.err_torn ∙ ap torn_of c.index_mut.ensures.value))

pub returns-clause-seen : goal.returns-clause-seen
returns-clause-seen c = λ f.
    let change = over c.args.at c.args.bytes.now in
    set_first seen_of c.place_made.new.self.files.items c.args.file c.in_ok-place.place c.index_mut.result.now _ change
    c.in_ok-place.ensures.found
    (c.write.ensures.file ∙ ap (λ (h : Held). h.file) c.index_mut.ensures.value)
    (c.in_ok-write.ensures.ok ∙ ap (λ (h : Held). change h.bytes) c.index_mut.ensures.value) f
    ∙ ap (λ (o : Option (List ℕ)). changed c.args.file change f o) (c.place_made.ensures.seen f)

pub returns-clause-torn : goal.returns-clause-torn
returns-clause-torn c = λ f.
    let change = ones_in c.args.at (length c.args.bytes.now) in
    set_first torn_of c.place_made.new.self.files.items c.args.file c.in_ok-place.place c.index_mut.result.now _ change
    c.in_ok-place.ensures.found
    (c.write.ensures.file ∙ ap (λ (h : Held). h.file) c.index_mut.ensures.value)
    (c.in_ok-write.ensures.ok_torn ∙ ap (λ (h : Held). change (torn_of h)) c.index_mut.ensures.value) f
    ∙ ap (λ (o : Option (List ℕ)). changed c.args.file change f o) (c.place_made.ensures.torn f)
