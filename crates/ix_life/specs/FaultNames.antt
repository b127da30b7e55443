-- The names of the faults of indexes.conf.
use Rattle.std.specs.Prelude.{ℕ, List, codes}
use Rattle.ix_life.specs.declared.faults.LimitFault.{LimitFault}
use Rattle.ix_life.specs.declared.faults.LimitFault.TheVariants.{BadValue, BadIndexName, NoMemory}

abbrev pub name_of : LimitFault → List ℕ
name_of (BadValue stanza key) = codes "BadValue"
name_of (BadIndexName stanza) = codes "BadIndexName"
name_of NoMemory = codes "NoMemory"
