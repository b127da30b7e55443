use Rattle.std.proofs.Common.{◌≡◌, ℕ, Bool, List, [], ◌∷◌, ◌++◌, ap, subst, sym, ◌∙◌, append_assoc}
use Rattle.ix_items.specs.declared.items.Item.{Item}
use Rattle.ix_items.specs.declared.items.Item.TheVariants as items
use Rattle.ix_items.specs.declared.items.Kept.{Kept}
use Rattle.ix_manifest.specs.Book.{after_item}
use Rattle.ix_manifest.specs.Slots.{items_of}
use Rattle.ix_commit.specs.Reads.{first_items}
use Rattle.ix_commit.specs.Snapshot.{Stages, with_item, begun}
use Rattle.ix_commit.proofs.mounting.enter_run.Goals as goal

pub returns-then-not-fresh-clause-staged : goal.returns-then-not-fresh-clause-staged
returns-then-not-fresh-clause-staged g c = λ old new stages.
    subst (λ (b : Bool). Stages c.enter.new.committer old (begun b c.args.run new)) (sym c.if-not-fresh.true)
    (c.in_ok-enter.ensures.staged old new stages)

pub returns-then-not-fresh-clause-made : goal.returns-then-not-fresh-clause-made
returns-then-not-fresh-clause-made g c = λ s is. c.in_ok-enter.ensures.made ∙ ap (after_item (items.Run c.args.run)) is
    ∙ ap (λ (b : Bool). (begun b c.args.run s).book) (sym c.if-not-fresh.true)

pub returns-then-not-fresh-clause-items : goal.returns-then-not-fresh-clause-items
returns-then-not-fresh-clause-items g c = c.in_ok-enter.ensures.items
    ∙ ap (λ (b : Bool). items_of c.args.committer.now.slots ++ first_items b c.args.run) (sym c.if-not-fresh.true)

pub enter-requires-2-clause-same : goal.enter-requires-2-clause-same
enter-requires-2-clause-same g c = ap items.Settings (c.new-again.ensures ∙ sym c.new-kept.ensures)

pub returns-clause-staged : goal.returns-clause-staged
returns-clause-staged g c = λ old new stages.
    let settled = subst (λ (kept : List Kept). Stages c.enter-2.new.committer old (with_item (items.Settings kept) new)) c.new-kept.ensures
    (c.in_ok-enter-2.ensures.staged old new stages) in
    subst (λ (b : Bool). Stages c.enter-3.new.committer old (begun b c.args.run new)) (sym c.if-not-fresh.false)
    (c.in_ok-enter-3.ensures.staged old (with_item (items.Settings []) new) settled)

pub returns-clause-made : goal.returns-clause-made
returns-clause-made g c = λ s is.
    let settled = c.in_ok-enter-2.ensures.made ∙ ap (λ (kept : List Kept).
    after_item (items.Settings kept) (g.B.ManifestState.stands c.args.state.now)) c.new-kept.ensures
    ∙ ap (after_item (items.Settings [])) is in
    c.in_ok-enter-3.ensures.made ∙ ap (after_item (items.Run c.args.run)) settled
    ∙ ap (λ (b : Bool). (begun b c.args.run s).book) (sym c.if-not-fresh.false)

pub returns-clause-items : goal.returns-clause-items
returns-clause-items g c =
    let settled = c.in_ok-enter-2.ensures.items ∙ ap (λ (kept : List Kept). items_of c.args.committer.now.slots ++ items.Settings kept
    ∷ []) c.new-kept.ensures in
    c.in_ok-enter-3.ensures.items ∙ ap (λ (l : List Item). l ++ items.Run c.args.run ∷ []) settled
    ∙ append_assoc (items_of c.args.committer.now.slots) (items.Settings [] ∷ []) (items.Run c.args.run ∷ [])
    ∙ ap (λ (b : Bool). items_of c.args.committer.now.slots ++ first_items b c.args.run) (sym c.if-not-fresh.false)

pub returns-clause-logs : goal.returns-clause-logs
returns-clause-logs g c = record {
  root = c.enter-3.ensures.logs.root ∙ c.enter-2.ensures.logs.root;
  log = c.enter-3.ensures.logs.log
      ∙ c.enter-2.ensures.logs.log;
  number = c.enter-3.ensures.logs.number ∙ c.enter-2.ensures.logs.number;
  first =
      c.enter-3.ensures.logs.first ∙ c.enter-2.ensures.logs.first;
  closed = c.enter-3.ensures.logs.closed ∙ c.enter-2.ensures.logs.closed;
}

pub returns-clause-parts : goal.returns-clause-parts
returns-clause-parts g c = c.enter-3.ensures.parts ∙ c.enter-2.ensures.parts

pub returns-clause-copies : goal.returns-clause-copies
returns-clause-copies g c = c.enter-3.ensures.copies ∙ c.enter-2.ensures.copies

pub returns-in_err-enter-3-clause-logs : goal.returns-in_err-enter-3-clause-logs
returns-in_err-enter-3-clause-logs g c = record {
  root = c.enter-3.ensures.logs.root ∙ c.enter-2.ensures.logs.root;
  log = c.enter-3.ensures.logs.log ∙ c.enter-2.ensures.logs.log;
  number = c.enter-3.ensures.logs.number ∙ c.enter-2.ensures.logs.number;
  first = c.enter-3.ensures.logs.first ∙ c.enter-2.ensures.logs.first;
  closed = c.enter-3.ensures.logs.closed
      ∙ c.enter-2.ensures.logs.closed;
}

pub returns-in_err-enter-3-clause-parts : goal.returns-in_err-enter-3-clause-parts
returns-in_err-enter-3-clause-parts g c = c.enter-3.ensures.parts ∙ c.enter-2.ensures.parts

pub returns-in_err-enter-3-clause-copies : goal.returns-in_err-enter-3-clause-copies
returns-in_err-enter-3-clause-copies g c = c.enter-3.ensures.copies ∙ c.enter-2.ensures.copies

pub returns-clause-some : goal.returns-clause-some
returns-clause-some g c = c.in_ok-enter-3.ensures.some
