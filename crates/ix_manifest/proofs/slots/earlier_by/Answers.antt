use Rattle.std.proofs.Common.{◌≤◌, get_or, subst}
use Rattle.std.specs.Prelude.{IfSome}
use Rattle.std.proofs.lemmas.List.{get_or_default}
use Rattle.ix_manifest.specs.Keys.{key_in}
use Rattle.ix_manifest.specs.Repeats.{under, Tells}
use Rattle.ix_manifest.specs.declared.staged_item.StagedItem.{StagedItem}
use Rattle.ix_manifest.proofs.RepeatLemmas.{alone}
use Rattle.ix_manifest.proofs.slots.earlier_by.Goals as goal

pub returns-in-Some-clause-none : goal.returns-in-Some-clause-none
returns-in-Some-clause-none c = λ d is.
    let slots = c.args.slots.now in
    let at = c.args.at in
    let that = c.index-slots-at.result in
    let tells : Tells c.in-Some.seen slots = subst (λ r. IfSome r (λ seen. Tells seen slots)) c.in-Some.is c.requires.tells in
    let few : under (key_in (get_or slots at that).item) slots ≤ 1 = c.is_single.ensures c.if-is_single.true slots tells in
    alone slots at d c.requires.at (subst (λ (s : StagedItem). under (key_in s.item) slots ≤ 1)
    (get_or_default slots at that d c.requires.at) few)
