use Rattle.std.proofs.Common.{◌∷◌, Bool, if◌then◌else◌, subst, sym, ◌∙◌}
use Rattle.std.specs.List.Sorted.{IsPermutation}
use Rattle.std.proofs.lemmas.Result.{on_ok_weaker}
use Rattle.ix_replay.specs.Putting.{without}
use Rattle.ix_replay.proofs.listing.put_at.Goals as goal

pub returns-then-stays-clause-moved : goal.returns-then-stays-clause-moved
returns-then-stays-clause-moved c =
    let rest = without c.args.at c.args.items.now.items in
    on_ok_weaker c.put_staying.result (λ h. subst (λ (b : Bool). IsPermutation (if b then c.args.item ∷ rest else rest)
    c.put_staying.new.items.items) (sym c.if-stays.true ∙ c.stays.ensures) h) c.put_staying.ensures.moved

pub returns-clause-moved : goal.returns-clause-moved
returns-clause-moved c =
    let rest = without c.args.at c.args.items.now.items in
    on_ok_weaker c.put_leaving-done.result (λ h. subst (λ (b : Bool). IsPermutation (if b then c.args.item ∷ rest else rest)
    c.put_leaving-done.new.items.items) (sym c.if-stays.false ∙ c.stays.ensures) h) c.put_leaving-done.ensures.moved
