use Rattle.std.proofs.Common.{rules, sym, ap, subst, ◌∙◌, ◌++◌, List}
use Rattle.std.proofs.lemmas.Result.{on_ok_weaker}
use Rattle.ix_base.specs.declared.files.File.{File}
use Rattle.ix_items.specs.declared.items.Item.{Item}
use Rattle.ix_items.specs.declared.items.Item.TheVariants as items
use Rattle.ix_store.specs.Making.{LeadsThrough, with_last}
use Rattle.ix_store.specs.declared.group.CommitGroup.{CommitGroup}
use Rattle.ix_store.proofs.store.Store.take.Goals as goal

pub returns-in-Ok-clause-memory : goal.returns-in-Ok-clause-memory
returns-in-Ok-clause-memory g c = c.take_with.ensures.memory

pub returns-in-Ok-clause-staged : goal.returns-in-Ok-clause-staged
returns-in-Ok-clause-staged g c = λ old new mid to stages leads.
    let made = c.args.made in
    let item = c.in-Ok.ensures.item ∙ ap (λ (l : List File). items.Removals (c.args.self.now.group.done_with ++ l)) c.as_slice-files.ensures
    in
    c.take_with.ensures.staged old new mid to stages (subst (λ (i : Item). LeadsThrough made.first (with_last i made.second) old new mid to)
    (sym item) leads)

pub returns-in-Ok-clause-done : goal.returns-in-Ok-clause-done
returns-in-Ok-clause-done g c =
    let done = c.in-Ok.ensures.done ∙ ap (λ (l : List File). c.args.self.now.group.done_with ++ l) c.as_slice-files.ensures in
    on_ok_weaker c.take_with.result (λ same. ap (λ (x : CommitGroup). x.done_with) same ∙ done) c.take_with.ensures.group

pub returns-in-Ok-clause-weight : goal.returns-in-Ok-clause-weight
returns-in-Ok-clause-weight g c = on_ok_weaker c.take_with.result (λ same. ap (λ (x : CommitGroup). x.weight) same
    ∙ c.in-Ok.ensures.weight) c.take_with.ensures.group

pub returns-in-Ok-clause-turned : goal.returns-in-Ok-clause-turned
returns-in-Ok-clause-turned g c = on_ok_weaker c.take_with.result (λ same. ap (λ (x : CommitGroup). x.turned) same
    ∙ (c.in-Ok.ensures.turned ∙ search rules)) c.take_with.ensures.group

pub returns-in-Ok-clause-waiting : goal.returns-in-Ok-clause-waiting
returns-in-Ok-clause-waiting g c = on_ok_weaker c.take_with.result (λ same. ap (λ (x : CommitGroup). x.waiting) same
    ∙ c.in-Ok.ensures.waiting) c.take_with.ensures.group

pub returns-in-Ok-clause-err : goal.returns-in-Ok-clause-err
returns-in-Ok-clause-err g c = c.take_with.ensures.err
