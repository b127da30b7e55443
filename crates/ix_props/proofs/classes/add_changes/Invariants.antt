use Rattle.std.proofs.Common.{◌≡◌, ◌++◌, codes, drop}
use Rattle.ix_props.specs.Ranking.{lent, classes_in}
use Rattle.ix_props.specs.Settings.{changes}
use Rattle.ix_props.proofs.classes.add_changes.Given as goal

abbrev pub invariant-loop-entry : goal.invariant-loop-entry
invariant-loop-entry l =
    l.seds ++ changes (classes_in (codes "SEDCMD-") (lent (drop l.entry-index l.chosen))) ≡ l.fn.seds
    ++ changes (classes_in (codes "SEDCMD-") (lent l.chosen))
