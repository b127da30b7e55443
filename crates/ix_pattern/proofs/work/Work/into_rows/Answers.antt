use Rattle.std.proofs.Common.{◌≤◌, ap, sym, ◌∙◌, subst}
use Rattle.ix_pattern.specs.Made.{Made}
use Rattle.ix_pattern.specs.Rows.{tree, rows_of, AllInside, byte_pieces}
use Rattle.ix_pattern.proofs.RowsLemmas.{cut-tree, cut-inside, cut-bytes}
use Rattle.ix_pattern.proofs.work.Work.into_rows.Goals as goal

pub returns-clause-tree : goal.returns-clause-tree
returns-clause-tree c =
    ap (λ l. tree (rows_of l)) c.truncate.ensures.items
    ∙ cut-tree c.self.inside.rows.items c.args.self c.args.root (ap (λ (m : Made). m.rows) c.self.view_is) c.requires

pub returns-clause-inside : goal.returns-clause-inside
returns-clause-inside c =
    subst (λ g. AllInside g 0 (rows_of c.truncate.new.self.items)) (ap (λ (m : Made). m.groups) c.self.view_is)
    (subst (λ l. AllInside c.self.inside.groups 0 (rows_of l)) (sym c.truncate.ensures.items)
    (cut-inside c.self.inside.rows.items c.self.inside.groups _ c.self.invariant))

pub returns-clause-bytes : goal.returns-clause-bytes
returns-clause-bytes c =
    subst (λ l. byte_pieces (rows_of l) ≤ byte_pieces c.args.self.rows) (sym c.truncate.ensures.items)
    (cut-bytes c.self.inside.rows.items c.args.self.rows _ (ap (λ (m : Made). m.rows) c.self.view_is))
