use Rattle.std.proofs.Common.{◌∷◌, List, subst, sym, arith}
use Rattle.std.specs.List.Sorted.{IsPermutation}
use Rattle.std.proofs.lemmas.Result.{on_ok_weaker}
use Rattle.ix_items.specs.declared.items.Item.{Item}
use Rattle.ix_replay.proofs.Places.{without_none}
use Rattle.ix_replay.proofs.listing.put_staying.Goals as goal

pub returns-then-at-len-clause-moved : goal.returns-then-at-len-clause-moved
returns-then-at-len-clause-moved c =
    let list = c.args.items.now.items in
    on_ok_weaker c.add.result (λ h. subst (λ (l : List Item). IsPermutation (c.args.item ∷ l) c.add.new.items.items)
    (sym (without_none list c.args.at (omega arith))) h) c.add.ensures.moved
