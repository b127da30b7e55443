use Rattle.std.proofs.Common.{subst}
use Rattle.ix_pikevm.specs.Tidied.{IsBestNarrow}
use Rattle.ix_pikevm.proofs.tidy.best_anew.Goals as goal

pub returns-in_ok-trail-in-End-clause-short : goal.returns-in_ok-trail-in-End-clause-short
returns-in_ok-trail-in-End-clause-short c = λ groups nested narrow.
    c.in_ok-trail-in-End.ensures.short groups nested (subst (IsBestNarrow groups nested c.args.old.now) c.in-End.is narrow)
