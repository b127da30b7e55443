use Rattle.std.proofs.Common.{ℕ, ◌+◌, ap, sym, ◌∙◌}
use Rattle.ix_base.specs.Lent.{lent_event}
use Rattle.ix_export.specs.Lines.{capped}
use Rattle.ix_export.proofs.LineLemmas.{inside, outside}
use Rattle.ix_export.proofs.writer.RangeWriter.put.Goals as goal

pub returns-in_ok-write-clause-exported : goal.returns-in_ok-write-clause-exported
returns-in_ok-write-clause-exported g c =
    inside c.args.self.now.range (lent_event c.args.event.now) _ _ c.args.self.now.count c.saturating_add-self.result
    (sym c.is_within.ensures ∙ c.if-is_within.true) c.in_ok-write.ensures.written
    (c.saturating_add-self.ensures ∙ ap (λ (n : ℕ). capped (n + 1)) c.in_ok-write.ensures.count)

pub returns-else-is_within-clause-exported : goal.returns-else-is_within-clause-exported
returns-else-is_within-clause-exported g c =
    outside c.args.self.now.range (lent_event c.args.event.now) _ c.args.self.now.count (sym c.is_within.ensures ∙ c.if-is_within.false)
