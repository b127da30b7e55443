-- The text of a fault of a settings file, as it stands behind the path of the file.
use Rattle.std.specs.Prelude.{ℕ, List, ◌++◌, codes, decimal}
use Rattle.ix_conf.specs.declared.entries.ConfFault.{ConfFault}
use Rattle.ix_conf.specs.declared.entries.ConfFault.TheVariants.{NotUtf8, NoEquals, BadStanza, TooLong, NoMemory}

abbrev pub fault_text : ConfFault → List ℕ
fault_text (NotUtf8 at) = codes " at " ++ decimal at ++ codes ": NotUtf8"
fault_text (NoEquals line) = codes " line " ++ decimal line ++ codes ": NoEquals"
fault_text (BadStanza line) = codes " line " ++ decimal line ++ codes ": BadStanza"
fault_text TooLong = codes ": TooLong"
fault_text NoMemory = codes ": NoMemory"
