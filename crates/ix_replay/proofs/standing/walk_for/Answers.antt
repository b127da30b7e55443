use Rattle.std.proofs.Common.{◌≡◌, [], false, subst, sym, ◌∙◌}
use Rattle.std.specs.Prelude.{All}
use Rattle.std.proofs.lemmas.List.{take_all}
use Rattle.std.proofs.lemmas.List.Elements.{All-more}
use Rattle.ix_items.specs.declared.items.Item.{Item}
use Rattle.ix_manifest.specs.Book.{named, name_of, is_same}
use Rattle.ix_replay.proofs.ListSteps.{stands_at, none_stands}
use Rattle.ix_replay.proofs.standing.walk_for.Goals as goal

pub returns-then-is_only : goal.returns-then-is_only
returns-then-is_only c = sym (stands_at c.args.items.now c.loop-item.item-index c.item-item.result (named c.args.kind [] 0) c.requires
    c.loop-item-test.true c.item-item.is (sym c.is_only.ensures ∙ c.if-is_only.true))

pub loop-item-preserved : goal.loop-item-preserved
loop-item-preserved c =
    All-more (λ (x : Item). is_same (name_of x) (named c.args.kind [] 0) ≡ false) c.args.items.now c.loop-item.item-index c.item-item.result
    c.loop-item-test.true c.loop-item.invariant
    (subst (λ (x : Item). is_same (name_of x) (named c.args.kind [] 0) ≡ false) c.item-item.is (sym c.is_only.ensures ∙ c.if-is_only.false))

pub returns : goal.returns
returns c =
    sym (none_stands c.args.items.now (named c.args.kind [] 0)
    (subst (All (λ (x : Item). is_same (name_of x) (named c.args.kind [] 0) ≡ false))
    (take_all c.loop-item.item-index c.args.items.now c.loop-item-test.false) c.loop-item.invariant))
