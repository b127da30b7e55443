use Rattle.std.proofs.Common.{All}
use Rattle.ix_conf_values.specs.Seds.{IsApplicable}
use Rattle.tests_pipeline.proofs.changes.add_seds.Given as goal

abbrev pub invariant-loop-text : goal.invariant-loop-text
invariant-loop-text l = All (λ sed. IsApplicable sed) l.seds
