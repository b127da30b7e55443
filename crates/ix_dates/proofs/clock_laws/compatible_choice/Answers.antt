use Rattle.std.proofs.Common.{sym}
use Rattle.ix_dates.proofs.ChoiceLemmas.{instant_in-is}
use Rattle.ix_dates.proofs.clock_laws.compatible_choice.Goals as goal

pub returns : goal.returns
returns c zone civil dt there year nanos = sym (instant_in-is civil zone dt there year nanos)
