use Rattle.std.proofs.Common.{ap, ◌∙◌, List}
use Rattle.std.proofs.lemmas.Result.{err_from_is_err_and}
use Rattle.ix_base.specs.declared.files.File.{File}
use Rattle.ix_items.specs.declared.items.Item.TheVariants as items
use Rattle.ix_store.proofs.group.CommitGroup.with_removals.Goals as goal

pub returns-in_err-group : goal.returns-in_err-group
returns-in_err-group c =
    let p = err_from_is_err_and c.from_residual.result c.from_residual.ensures.1 in
    rw p.1 (record { done = tt; weight = tt; turned = tt; waiting = tt; item = tt; proper = tt })

pub returns-in_err-last : goal.returns-in_err-last
returns-in_err-last c =
    let p = err_from_is_err_and c.from_residual-in_err-last.result c.from_residual-in_err-last.ensures.1 in
    rw p.1 (record { done = tt; weight = tt; turned = tt; waiting = tt; item = tt; proper = tt })

pub returns : goal.returns
returns c = record {
  done = c.in_ok-group.ensures.done;
  weight = c.in_ok-group.ensures.weight;
  turned = c.in_ok-group.ensures.turned;
  waiting = c.in_ok-group.ensures.waiting;
  item = c.in_ok-last.ensures.item ∙ ap (λ (l : List File). items.Removals l) c.in_ok-group.ensures.done;
  proper = c.in_ok-last.ensures.proper;
}
