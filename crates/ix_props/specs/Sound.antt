-- Entries of props.conf as they come of reading it.
use Rattle.std.specs.Prelude.{List, codes}
use Rattle.std.specs.List.{AllByRecursion}
use Rattle.ix_conf.specs.declared.layers.MergedEntry.{MergedEntry}
use Rattle.ix_props.specs.Kinds.{behind}
use Rattle.ix_props.specs.Props.{IsRead}
use Rattle.ix_props.specs.Values.{IsStanza}
use Rattle.ix_props.specs.declared.props.PropsEntry.{PropsEntry}

-- an entry was read of some text
pub record IsSound (entry : PropsEntry) : Type 0 where
  pub transforms : List MergedEntry
  pub zones : List MergedEntry
  pub said : MergedEntry
  pub is_read : IsRead transforms zones said entry

abbrev pub AreSound : List PropsEntry → Type 0
AreSound entries = AllByRecursion IsSound entries

-- a stanza's own entry has the pattern of its name
abbrev pub IsOwnSound : PropsEntry → Type 0
IsOwnSound entry = IsStanza (behind (codes "source::") entry.stanza) (behind (codes "host::") entry.stanza) entry.value
