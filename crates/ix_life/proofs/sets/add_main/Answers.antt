use Rattle.std.proofs.Common.{sym, ◌∙◌}
use Rattle.std.proofs.lemmas.Result.{on_ok_weaker}
use Rattle.ix_life.proofs.LimitsLemmas.{main_listed, main_unlisted, more_of, none_of}
use Rattle.ix_life.proofs.sets.add_main.Goals as goal

pub returns-then-has : goal.returns-then-has
returns-then-has c = none_of _ _ (main_listed c.args.indexes.now (sym c.has.ensures ∙ c.if-has.true))

pub returns-else-has : goal.returns-else-has
returns-else-has c = on_ok_weaker c.add_named.result (more_of _ _ _ _
    (sym (main_unlisted c.args.indexes.now (sym c.has.ensures ∙ c.if-has.false)))) c.add_named.ensures
