-- What faults of the layers below are to a store.
use Rattle.std.specs.Prelude.{ℕ, Bool, true, false, Result, Ok, Err}
use Rattle.ix_export.specs.declared.fault.BucketFault.{BucketFault}
use Rattle.ix_export.specs.declared.fault.BucketFault.TheVariants as buckets
use Rattle.ix_commit.specs.declared.mounting.MountFault.{MountFault as KeptFault}
use Rattle.ix_commit.specs.declared.mounting.MountFault.TheVariants as kept
use Rattle.ix_store.specs.declared.fault.ExportFault.{ExportFault}
use Rattle.ix_store.specs.declared.fault.ExportFault.TheVariants as exports
use Rattle.ix_store.specs.declared.fault.MountFault.{MountFault}
use Rattle.ix_store.specs.declared.fault.MountFault.TheVariants as faults

abbrev pub fault_of : KeptFault → MountFault
fault_of kept.Disk = faults.Disk
fault_of (kept.Damaged file at) = faults.Damaged file at
fault_of kept.Full = faults.Full
fault_of kept.NoMemory = faults.NoMemory

abbrev pub export_fault_of : BucketFault → ExportFault
export_fault_of buckets.Disk = exports.Disk
export_fault_of (buckets.Damaged file at) = exports.Damaged file at
export_fault_of buckets.Output = exports.Output
export_fault_of buckets.NoMemory = exports.NoMemory

abbrev pub is_of_disk : ExportFault → Bool
is_of_disk exports.Closed = false
is_of_disk exports.UnknownIndex = false
is_of_disk exports.Disk = true
is_of_disk (exports.Damaged file at) = true
is_of_disk exports.Output = false
is_of_disk exports.NoMemory = false

-- whether the store is closed after such an answer
abbrev pub closes : Result ℕ ExportFault → Bool
closes (Ok count) = false
closes (Err fault) = is_of_disk fault
