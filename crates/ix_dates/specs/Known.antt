-- The formats that are tried where none is set.
use Rattle.std.specs.Prelude.{◌≡◌, ◌<◌, ℕ, List, [], ◌∷◌, None, drop}
use Rattle.ix_conf_values.specs.declared.formats.Directive.{Directive}
use Rattle.ix_conf_values.specs.declared.formats.Directive.TheVariants.{Year, Month, Day, PaddedDay, Hour, Minute, Second, ShortMonthName}
use Rattle.ix_conf_values.specs.declared.formats.Directive.TheVariants.{Offset, Space, Byte}
use Rattle.ix_dates.specs.declared.fields.Fields.{Fields}
use Rattle.ix_dates.specs.declared.known.KnownFormat.{KnownFormat}
use Rattle.ix_dates.specs.declared.known.KnownFormat.TheVariants.{Iso, Syslog, Access, American}
use Rattle.ix_dates.specs.Directives.{read_all}
use Rattle.ix_dates.specs.Fields.{no_fields}
use Rattle.ix_dates.specs.Iso.{iso}
use Rattle.ix_dates.specs.Text.{Read}

-- `%b %e %H:%M:%S`
abbrev pub syslog : List Directive
syslog = ShortMonthName ∷ Space ∷ PaddedDay ∷ Space ∷ Hour ∷ Byte 58 ∷ Minute ∷ Byte 58 ∷ Second ∷ []

-- `%d/%b/%Y:%H:%M:%S %z`
abbrev pub access : List Directive
access =
    Day ∷ Byte 47 ∷ ShortMonthName ∷ Byte 47 ∷ Year ∷ Byte 58 ∷ Hour ∷ Byte 58 ∷ Minute ∷ Byte 58 ∷ Second ∷ Space ∷ Offset ∷ []

-- `%m/%d/%Y %H:%M:%S`
abbrev pub american : List Directive
american = Month ∷ Byte 47 ∷ Day ∷ Byte 47 ∷ Year ∷ Space ∷ Hour ∷ Byte 58 ∷ Minute ∷ Byte 58 ∷ Second ∷ []

unfoldable pub read_known : KnownFormat → List ℕ → Read Fields
read_known Iso text = iso text
read_known Syslog text = read_all syslog no_fields text
read_known Access text = read_all access no_fields text
read_known American text = read_all american no_fields text

-- none of the formats reads there
abbrev pub ReadsNothing : List ℕ → Type 0
ReadsNothing text = (format : KnownFormat) → read_known format text ≡ None

-- Of a text the rest is left, and none of the formats reads at a place before it.
pub record PassesOver (text rest : List ℕ) : Type 0 where
  pub count : ℕ
  pub left : rest ≡ drop count text
  pub quiet : (i : ℕ) → i < count → ReadsNothing (drop i text)
