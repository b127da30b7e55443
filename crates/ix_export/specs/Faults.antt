-- What is said of a fault of an export.
use Rattle.std.specs.Prelude.{ℕ}
use Rattle.ix_base.specs.declared.files.File.{File}
use Rattle.ix_bucket.specs.declared.ahead.ReadFault.{ReadFault}
use Rattle.ix_bucket.specs.declared.ahead.ReadFault.TheVariants as read
use Rattle.ix_export.specs.declared.fault.BucketFault.{BucketFault}
use Rattle.ix_export.specs.declared.fault.BucketFault.TheVariants.{Disk, Damaged, Output, NoMemory}

-- what is so of the named file and place
abbrev pub OnDamaged : BucketFault → (File → ℕ → Type 0) → Type 0
OnDamaged Disk P = Unit {0}
OnDamaged (Damaged file at) P = P file at
OnDamaged Output P = Unit {0}
OnDamaged NoMemory P = Unit {0}

-- the fault of a bucket with this file that was not read
abbrev pub fault_of : File → ReadFault → BucketFault
fault_of file read.Disk = Disk
fault_of file (read.BadRecord at) = Damaged file at
fault_of file read.NoMemory = NoMemory
