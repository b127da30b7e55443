use Rattle.std.proofs.Common.{ap}
use Rattle.std.specs.Prelude.{Err}
use Rattle.indexd_selftest.specs.declared.fault.SelftestFault.{SelftestFault}
use Rattle.indexd_core.proofs.FeedLemmas.{asks_taken}
use Rattle.indexd_core.proofs.selftest.run_selftest.Goals as goal

pub selftest-requires-clause-settings : goal.selftest-requires-clause-settings
selftest-requires-clause-settings g c = λ config is. is

pub selftest-requires-clause-asks : goal.selftest-requires-clause-asks
selftest-requires-clause-asks g c = asks_taken

pub returns-clause-tests : goal.returns-clause-tests
returns-clause-tests g c = (
  c.in-Err-Full.ensures.full (ap (λ (f : SelftestFault). Err f) c.in-Err-Full.field-0-is),
  c.say-in-Err-Full.ensures.said,
)
