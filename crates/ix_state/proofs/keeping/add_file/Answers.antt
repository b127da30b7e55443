use Rattle.std.proofs.Common.{◌∷◌, [], ◌++◌, ap, sym, ◌∙◌}
use Rattle.ix_conf.specs.Lent.{item_entry}
use Rattle.ix_state.proofs.Lists.{kept_push, kept_whole}
use Rattle.ix_state.proofs.keeping.add_file.Goals as goal

pub returns-in_default : goal.returns-in_default
returns-in_default c = kept_whole c.args.file c.args.merged.now c.loop-at.at c.loop-at.list _ (sym c.in_default.ensures) c.loop-at.invariant

pub loop-at-preserved : goal.loop-at-preserved
loop-at-preserved c =
    kept_push c.args.file c.args.merged.now c.loop-at.at (item_entry c.in-Some.item) c.loop-at.list c.push.new.self _
    (sym c.in-Some.ensures)
    (c.in_ok-push.ensures.ok ∙ ap (λ x. c.loop-at.list ++ x ∷ []) c.in_ok-kept_as.ensures) c.loop-at.invariant
