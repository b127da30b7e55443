use Rattle.std.proofs.Common.{List, subst, sym, arith}
use Rattle.std.specs.List.Sorted.{IsPermutation}
use Rattle.std.proofs.lemmas.List.Sorted.{IsPermutation-refl}
use Rattle.ix_items.specs.declared.items.Item.{Item}
use Rattle.ix_replay.proofs.ListSteps.{book_same, others_from_all}
use Rattle.ix_replay.proofs.Places.{without_none}
use Rattle.ix_replay.proofs.listing.put_leaving.Goals as goal

pub returns-then-at-len-clause-book : goal.returns-then-at-len-clause-book
returns-then-at-len-clause-book c =
    let list = c.args.items.now.items in
    book_same list c.args.item.now (others_from_all list c.args.item.now (c.requires.none (omega arith))) c.requires.gone

pub returns-then-at-len-clause-moved : goal.returns-then-at-len-clause-moved
returns-then-at-len-clause-moved c =
    let list = c.args.items.now.items in
    subst (λ (l : List Item). IsPermutation l list) (sym (without_none list c.args.at (omega arith))) (IsPermutation-refl list)
