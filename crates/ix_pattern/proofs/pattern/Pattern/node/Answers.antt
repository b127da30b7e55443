use Rattle.std.proofs.Common.{ap, subst}
use Rattle.ix_pattern.specs.Rows.{Shape, IsPattern}
use Rattle.ix_pattern.proofs.RowsLemmas.{node-is, node-inside}
use Rattle.ix_pattern.proofs.pattern.Pattern.node.Goals as goal

pub returns-clause-is : goal.returns-clause-is
returns-clause-is c =
    node-is _ c.args.self.now _ _ (ap (λ (s : Shape). s.rows) c.self.view_is) (subst IsPattern c.self.view_is c.self.invariant.0) c.requires
    c.index.ensures

pub returns-clause-inside : goal.returns-clause-inside
returns-clause-inside c =
    node-inside _ c.args.self.now _ _ (ap (λ (s : Shape). s.rows) c.self.view_is) (subst IsPattern c.self.view_is c.self.invariant.0)
    c.requires c.index.ensures
