use Rattle.std.proofs.Common.{◌≡◌, get_or, false, sym, subst, ◌∙◌, arith}
use Rattle.std.proofs.lemmas.List.{get_or_default}
use Rattle.std.proofs.lemmas.List.Elements.{All-more}
use Rattle.ix_manifest.specs.Book.{name_of, is_same}
use Rattle.ix_manifest.specs.declared.staged_item.StagedItem.{StagedItem}
use Rattle.ix_manifest.proofs.slots.earlier.Goals as goal

pub loop-k-preserved : goal.loop-k-preserved
loop-k-preserved c =
    let slots = c.args.slots.now in
    let mine = c.index-slots-k.result in
    let that = c.index-slots-at.result in
    let differ : is_same (name_of (get_or slots c.loop-k.k mine).item) (name_of (get_or slots c.args.at that).item) ≡ false =
    sym c.same_name.ensures ∙ c.if-same_name.false in
    record {
      within = omega (arith, c.loop-k-test.true);
      none = λ d. All-more (λ (slot : StagedItem). is_same (name_of slot.item) (name_of (get_or slots c.args.at d).item) ≡ false) slots
          c.loop-k.k mine (omega (arith, c.loop-k-test.true, c.requires)) (c.loop-k.invariant.none d)
          (subst (λ (s : StagedItem). is_same (name_of (get_or slots c.loop-k.k mine).item) (name_of s.item) ≡ false)
          (get_or_default slots c.args.at that d c.requires) differ);
    }
