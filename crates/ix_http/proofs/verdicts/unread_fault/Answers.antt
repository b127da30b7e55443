use Rattle.std.proofs.Common.{sym, ◌∙◌}
use Rattle.ix_http.proofs.VerdictLemmas.{open_faulty}
use Rattle.ix_http.proofs.verdicts.unread_fault.Goals as goal

pub returns-in-None : goal.returns-in-None
returns-in-None c = absurd (open_faulty _ c.requires.endless (sym c.head_fault.ensures ∙ c.in-None.is))
