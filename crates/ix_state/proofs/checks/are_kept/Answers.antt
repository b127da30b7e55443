use Rattle.std.proofs.Common.{sym, ap, ◌∙◌, arith}
use Rattle.std.specs.Prelude.{is_none}
use Rattle.ix_conf.specs.Lent.{item_entry}
use Rattle.ix_model.specs.Given.{entry}
use Rattle.ix_state.specs.Checks.{is_there}
use Rattle.ix_state.proofs.CheckLemmas.{same_more, same_breaks, same_end, none_mapped}
use Rattle.ix_state.proofs.checks.are_kept.Goals as goal

pub returns-then-not-is_there : goal.returns-then-not-is_there
returns-then-not-is_there c =
    same_breaks c.args.merged.now c.args.kept.now c.loop-at.at c.index-kept-at.result _ c.loop-at-test.true c.index-kept-at.is
    (sym c.if-not-is_there.true ∙ c.is_there.ensures ∙ ap (λ o. is_there o (entry c.index-kept-at.result)) c.item.ensures)
    c.loop-at.invariant

pub loop-at-preserved : goal.loop-at-preserved
loop-at-preserved c =
    same_more c.args.merged.now c.args.kept.now c.loop-at.at c.index-kept-at.result _ c.loop-at-test.true c.index-kept-at.is
    (sym c.if-not-is_there.false ∙ c.is_there.ensures ∙ ap (λ o. is_there o (entry c.index-kept-at.result)) c.item.ensures)
    c.loop-at.invariant

pub returns : goal.returns
returns c =
    none_mapped (λ lent. item_entry lent) c.item-2.result c.is_none.result c.is_none.ensures ∙ ap is_none c.item-2.ensures
    ∙ same_end c.args.merged.now c.args.kept.now c.loop-at.at _ (omega arith) c.loop-at.invariant
