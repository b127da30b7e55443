use Rattle.std.proofs.Common.{List, ◌∷◌, ap, subst, sym, ◌∙◌}
use Rattle.std.specs.List.Sorted.{IsPermutation}
use Rattle.ix_items.specs.declared.items.Item.{Item}
use Rattle.ix_manifest.specs.Book.{empty, replay}
use Rattle.ix_replay.specs.Known.{AreKnown}
use Rattle.ix_replay.specs.Lists.{AreListed}
use Rattle.ix_replay.proofs.ListSteps.{list_push, book_push, others_from_all}
use Rattle.ix_replay.proofs.Places.{known_push, moved_pushed}
use Rattle.ix_replay.proofs.listing.add.Goals as goal

pub returns-clause-listed : goal.returns-clause-listed
returns-clause-listed c = subst AreListed (sym c.in_ok-push.ensures.items)
    (list_push c.args.items.now.items c.args.item c.requires.listed (others_from_all c.args.items.now.items c.args.item c.requires.none)
    c.requires.stays)

pub returns-clause-known : goal.returns-clause-known
returns-clause-known c = subst (AreKnown c.note.new.places) (sym c.in_ok-push.ensures.items)
    (known_push c.args.items.now.items c.args.item c.note.new.places c.in_ok-note.ensures.here
    (c.note.ensures.known c.args.items.now.items c.requires.known))

pub returns-clause-book : goal.returns-clause-book
returns-clause-book c = ap (λ (l : List Item). replay l empty) c.in_ok-push.ensures.items ∙ book_push c.args.items.now.items c.args.item

pub returns-clause-moved : goal.returns-clause-moved
returns-clause-moved c = subst (IsPermutation (c.args.item ∷ c.args.items.now.items)) (sym c.in_ok-push.ensures.items)
    (moved_pushed c.args.items.now.items c.args.item)
