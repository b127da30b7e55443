-- The first time in a window, by the formats that are tried where none is set.
use Rattle.std.specs.Prelude.{◌≡◌, ◌<◌, ℕ, ℤ, List, [], ◌∷◌, Option, Some, None, length, drop}
use Rattle.jiff_tz.specs.PosixText.{TzText}
use Rattle.ix_dates.specs.declared.known.KnownFormat.TheVariants.{Iso, Syslog, Access, American}
use Rattle.ix_dates.specs.Text.{or_else}
use Rattle.ix_time.specs.Instants.{by_known}

-- the first of the four formats that reads at the front of a text
unfoldable pub at_front : TzText → ℤ → List ℕ → Option ℤ
at_front zone arrival text =
    or_else (by_known zone arrival Iso text)
    (or_else (by_known zone arrival Syslog text)
    (or_else (by_known zone arrival Access text) (by_known zone arrival American text)))

-- the first offset of a window at which one of them reads
unfoldable pub first_time : TzText → ℤ → List ℕ → Option ℤ
first_time zone arrival [] = None
first_time zone arrival (b ∷ rest) = or_else (at_front zone arrival (b ∷ rest)) (first_time zone arrival rest)

-- what is read at an offset, and nothing at any before it
pub record IsFirst (read : List ℕ → Option ℤ) (window : List ℕ) (time : ℤ) : Type 0 where
  pub offset : ℕ
  pub within : offset < length window
  pub reads : read (drop offset window) ≡ Some time
  pub before : (i : ℕ) → i < offset → read (drop i window) ≡ None

-- what the first offset gives; nothing where none gives anything
abbrev pub GivesFirst : (List ℕ → Option ℤ) → List ℕ → Option ℤ → Type 0
GivesFirst read window None = (i : ℕ) → i < length window → read (drop i window) ≡ None
GivesFirst read window (Some time) = IsFirst read window time
