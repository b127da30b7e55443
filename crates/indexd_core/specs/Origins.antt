-- What the words of a preview state, and the stops of its settings.
use Rattle.std.specs.Prelude.{ℕ, List, Option, option_map}
use Rattle.indexd_settings.specs.declared.faults.ConfigurationStop.{ConfigurationStop}
use Rattle.indexd_settings.specs.declared.faults.ConfigurationStop.TheVariants as settings
use Rattle.indexd_cli.specs.declared.invocation.Origin.{Origin}
use Rattle.indexd_core.specs.Prepared.{Stated}
use Rattle.indexd_core.specs.declared.prepare.PrepareStop.{PrepareStop}
use Rattle.indexd_core.specs.declared.prepare.PrepareStop.TheVariants.{Memory, Input, Refused}

abbrev pub stated_of : Origin → Stated
stated_of origin = record {
  host = origin.host.now;
  source = origin.source.now;
  sourcetype = option_map (λ s. s.now) origin.sourcetype;
  index = option_map (λ s. s.now) origin.index;
}

abbrev pub stop_of : ConfigurationStop → PrepareStop
stop_of settings.Memory = Memory
stop_of settings.Input = Input
stop_of (settings.Refused fault) = Refused fault
