use Rattle.std.proofs.Common.{None, take, sym, subst}
use Rattle.std.specs.Prelude.{IfSome}
use Rattle.ix_pattern.specs.Rows.{Shape}
use Rattle.ix_match.specs.Attempt.{reach}
use Rattle.ix_match.specs.Searches.{IsKept}
use Rattle.ix_match.proofs.KeptLemmas.{keeps-search}
use Rattle.ix_match.proofs.scan.Scan.reset.Goals as goal

pub invariant_of-self : goal.invariant_of-self
invariant_of-self c =
    let i = c.self.inside in (
      c.self.invariant.0,
      c.forget.ensures c.emptied-self-inside.result.pattern.rows None (take reach c.emptied-self-inside.result.bytes)
          (subst (λ (q : Shape). IfSome i.kept (λ k. IsKept q.rows k.search)) (sym c.emptied-self-inside.ensures.0)
          (keeps-search i.told.pattern.rows i.kept i.before (take reach i.told.bytes) c.self.invariant.1)),
      λ none. c.emptied-self-inside.ensures.1,
    )
