use Rattle.ix_match.specs.Attempt.{reach}
use Rattle.ix_lines.specs.Breaks.{breaks_by}
use Rattle.ix_match.proofs.StartLemmas.{reach-some}
use Rattle.ix_lines.proofs.Attempts.{breaks-wait}
use Rattle.ix_lines.proofs.CarryLemmas.{few-carried}
use Rattle.ix_lines.proofs.stream.Lines.parts.Goals as goal

pub returns-clause-pending : goal.returns-clause-pending
returns-clause-pending c =
    let look = c.self.inside.cutter.breaker.pattern in
    rw (← c.self.view_is) (λ stream stands.
    few-carried (breaks_by look) reach (breaks-wait look) reach-some c.self.inside.cutter.truncate stream _ c.in_ok-pending.pending stands
    c.in_ok-pending.ensures)
