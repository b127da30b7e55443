use Rattle.std.proofs.Common.{◌≡◌, ◌++◌, codes, drop}
use Rattle.ix_props.specs.Ranking.{lent, classes_in}
use Rattle.ix_props.specs.Settings.{chain}
use Rattle.ix_props.proofs.classes.add_chain.Given as goal

abbrev pub invariant-loop-entry : goal.invariant-loop-entry
invariant-loop-entry l =
    l.list ++ chain (classes_in (codes "TRANSFORMS-") (lent (drop l.entry-index l.chosen))) ≡ l.fn.list
    ++ chain (classes_in (codes "TRANSFORMS-") (lent l.chosen))
