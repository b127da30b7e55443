use Rattle.std.proofs.Common.{◌∙◌, ap, position}
use Rattle.ix_disk.specs.Files.{is_same}
use Rattle.ix_disk.specs.declared.held.Held.{Held}
use Rattle.ix_disk.proofs.Places.{blank, place_within, place_found, place_missing}
use Rattle.ix_disk.proofs.contents.Contents.place.Goals as goal

pub returns-clause-within : goal.returns-clause-within
returns-clause-within c = place_within c.args.self.now.files.items c.args.file (blank c.args.file) c.first_place.result
    (c.first_place.ensures ∙ ap (position (λ (h : Held). is_same c.args.file h.file)) c.deref.ensures.value)

pub returns-clause-found : goal.returns-clause-found
returns-clause-found c = place_found c.args.self.now.files.items c.args.file (blank c.args.file) c.first_place.result (c.first_place.ensures
    ∙ ap (position (λ (h : Held). is_same c.args.file h.file)) c.deref.ensures.value)

pub returns-clause-missing : goal.returns-clause-missing
returns-clause-missing c = place_missing c.args.self.now.files.items c.args.file c.first_place.result (c.first_place.ensures
    ∙ ap (position (λ (h : Held). is_same c.args.file h.file)) c.deref.ensures.value)
