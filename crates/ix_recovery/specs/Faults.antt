-- What the faults of others count for.
use Rattle.ix_state.specs.declared.faults.ConfigFault.{ConfigFault}
use Rattle.ix_state.specs.declared.faults.ConfigFault.TheVariants as configuring
use Rattle.ix_store.specs.declared.faulty_item.FaultyItem.TheVariants as subjects
use Rattle.ix_recovery.specs.declared.faults.RecoveryFault.{RecoveryFault}
use Rattle.ix_recovery.specs.declared.faults.RecoveryFault.TheVariants as faults

abbrev pub by_config : ConfigFault → RecoveryFault
by_config configuring.Unsound = faults.Bad subjects.Settings
by_config configuring.NoMemory = faults.NoMemory
