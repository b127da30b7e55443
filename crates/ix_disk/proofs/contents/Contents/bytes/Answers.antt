use Rattle.std.proofs.Common.{◌∙◌, sym, ap}
use Rattle.ix_disk.specs.Image.{content}
use Rattle.ix_disk.specs.Contents.{seen_of}
use Rattle.ix_disk.specs.declared.held.Held.{Held}
use Rattle.ix_disk.proofs.Places.{first_get, absent_none}
use Rattle.ix_disk.proofs.contents.Contents.bytes.Goals as goal

pub returns-in_default : goal.returns-in_default
returns-in_default c = sym (ap content (absent_none seen_of c.args.self.now.files.items c.args.file c.in_default.ensures.missing))

pub returns : goal.returns
returns c = c.bytes.ensures ∙ ap (λ (h : Held). content h.bytes) c.index.ensures
    ∙ sym (ap content (first_get seen_of c.args.self.now.files.items c.args.file c.in-Some.place c.index.result.now
    c.in-Some.ensures.found))
