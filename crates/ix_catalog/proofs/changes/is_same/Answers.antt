use Rattle.std.proofs.Common.{sym, ◌∙◌}
use Rattle.ix_catalog.proofs.Same.{equals_decides}
use Rattle.ix_catalog.proofs.changes.is_same.Goals as goal

pub returns : goal.returns
returns c =
    let decides = equals_decides c.args.old.now c.args.new.now in
    (λ yes. decides.0 (sym c.eq.ensures ∙ yes), λ same. c.eq.ensures ∙ decides.1 same)
