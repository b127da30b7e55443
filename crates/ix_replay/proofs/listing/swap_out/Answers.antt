use Rattle.std.proofs.Common.{List, ap, subst, sym, ◌∙◌}
use Rattle.std.specs.List.Sorted.{IsPermutation}
use Rattle.ix_items.specs.declared.items.Item.{Item}
use Rattle.ix_manifest.specs.Book.{empty, replay}
use Rattle.ix_replay.specs.Known.{AreKnown}
use Rattle.ix_replay.specs.Lists.{AreListed}
use Rattle.ix_replay.specs.Putting.{without}
use Rattle.ix_replay.proofs.Places.{list_swapped, book_swapped, known_swapped, moved_swapped}
use Rattle.ix_replay.proofs.listing.swap_out.Goals as goal

pub returns-clause-listed : goal.returns-clause-listed
returns-clause-listed c = subst AreListed (sym c.swap_remove.ensures.items)
    (list_swapped c.args.items.now.items c.args.at c.args.gone.now c.swap_remove.result c.requires.at c.requires.listed
    (c.requires.same c.args.gone.now))

pub returns-clause-known : goal.returns-clause-known
returns-clause-known c = subst (AreKnown c.args.places.now) (sym c.swap_remove.ensures.items)
    (known_swapped c.args.items.now.items c.args.at c.swap_remove.result c.args.places.now c.requires.at c.requires.known)

pub returns-clause-book : goal.returns-clause-book
returns-clause-book c = ap (λ (l : List Item). replay l empty) c.swap_remove.ensures.items
    ∙ book_swapped c.args.items.now.items c.args.at c.args.gone.now c.swap_remove.result c.requires.at c.requires.listed
    (c.requires.same c.args.gone.now) c.requires.gone

pub returns-clause-moved : goal.returns-clause-moved
returns-clause-moved c = subst (IsPermutation (without c.args.at c.args.items.now.items)) (sym c.swap_remove.ensures.items)
    (moved_swapped c.args.items.now.items c.args.at c.swap_remove.result c.requires.at)
