use Rattle.std.proofs.Common.{◌∙◌, ℕ, List, sym, subst}
use Rattle.ix_pattern.specs.Rows.{Shape}
use Rattle.ix_lines.specs.Begun.{Attends}
use Rattle.ix_lines.specs.Breaks.{breaks_by}
use Rattle.ix_lines.specs.Laws.{IsStable}
use Rattle.ix_lines.proofs.stream.brought_up.Goals as goal

pub bring_up-requires-clause-goes_on : goal.bring_up-requires-clause-goes_on
bring_up-requires-clause-goes_on c = c.in_ok-breaker.ensures.goes_on c.args.pending.now.before c.as_slice-waiting.result.now

pub returns-clause-is : goal.returns-clause-is
returns-clause-is c = c.bring_up.ensures.pattern ∙ c.in_ok-breaker.ensures.is

pub returns-clause-stable : goal.returns-clause-stable
returns-clause-stable c = subst (λ (p : Shape). IsStable (breaks_by p)) (sym c.bring_up.ensures.pattern) c.in_ok-breaker.ensures.stable

pub returns-clause-attends : goal.returns-clause-attends
returns-clause-attends c =
    subst (λ (bytes : List ℕ). Attends c.bring_up.new.self c.args.pending.now.before bytes) c.as_slice-waiting.ensures
    (record { goes_on = c.in_ok-bring_up.ensures.goes_on; begun = c.in_ok-bring_up.ensures.begun })
