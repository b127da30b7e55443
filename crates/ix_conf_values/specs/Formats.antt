-- Formats of times. From Splunk's Admin Manual, "Configure timestamp recognition", and the strptime
-- of POSIX.
use Rattle.std.specs.Prelude.{ℕ, ◌≡◌, ◌==◌, ◌&&◌, ◌||◌, if◌then◌else◌, nat_le, Bool, true, false, List, [], ◌∷◌, ◌++◌, Option, Some, None}
use Rattle.std.specs.Option.{option_map, option_and_then}
use Rattle.std.specs.List.{list_any}
use Rattle.ix_conf_values.specs.declared.formats.Directive.{Directive}
use Rattle.ix_conf_values.specs.declared.formats.Directive.TheVariants.{Year, YearOfCentury, Month, Day, PaddedDay, Hour, HalfDayHour}
use Rattle.ix_conf_values.specs.declared.formats.Directive.TheVariants.{Minute, Second, DayOfYear, ShortMonthName, MonthName}
use Rattle.ix_conf_values.specs.declared.formats.Directive.TheVariants.{ShortWeekdayName, WeekdayName, HalfDay, Epoch, Fraction, Millis}
use Rattle.ix_conf_values.specs.declared.formats.Directive.TheVariants.{Micros, Nanos, Offset, ZoneName, Space, Byte}
use Rattle.ix_conf_values.specs.declared.formats.Place.{Place}
use Rattle.ix_conf_values.specs.declared.formats.Place.TheVariants.{Plain, InSpace, Percent, Width}
use Rattle.ix_conf_values.specs.declared.formats.Added.{Added}
use Rattle.ix_conf_values.specs.declared.formats.Added.TheVariants.{Nothing, One, Clock, Date}
use Rattle.ix_conf_values.specs.declared.formats.FormatFault.{FormatFault}
use Rattle.ix_conf_values.specs.declared.formats.FormatFault.TheVariants.{BadValue, NoMemory}

-- what is added to a list of directives
abbrev pub added_list : Added → List Directive
added_list Nothing = []
added_list (One directive) = directive ∷ []
added_list Clock = Hour ∷ Byte 58 ∷ Minute ∷ Byte 58 ∷ Second ∷ []
added_list Date = Year ∷ Byte 45 ∷ Month ∷ Byte 45 ∷ Day ∷ []

-- what a byte behind a percent sign stands for
abbrev pub directive_of : ℕ → Option (List Directive)
directive_of b =
    if b == 89 then Some (Year ∷ [])
    else if b == 121 then Some (YearOfCentury ∷ [])
    else if b == 109 then Some (Month ∷ [])
    else if b == 100 then Some (Day ∷ [])
    else if b == 101 then Some (PaddedDay ∷ [])
    else if b == 72 then Some (Hour ∷ [])
    else if b == 73 then Some (HalfDayHour ∷ [])
    else if b == 77 then Some (Minute ∷ [])
    else if b == 83 then Some (Second ∷ [])
    else if b == 106 then Some (DayOfYear ∷ [])
    else if b == 98 then Some (ShortMonthName ∷ [])
    else if b == 66 then Some (MonthName ∷ [])
    else if b == 97 then Some (ShortWeekdayName ∷ [])
    else if b == 65 then Some (WeekdayName ∷ [])
    else if b == 112 then Some (HalfDay ∷ [])
    else if b == 115 then Some (Epoch ∷ [])
    else if b == 78 then Some (Fraction ∷ [])
    else if b == 122 then Some (Offset ∷ [])
    else if b == 90 then Some (ZoneName ∷ [])
    else if b == 37 then Some (Byte 37 ∷ [])
    else if b == 84 then Some (added_list Clock)
    else if b == 70 then Some (added_list Date)
    else None

abbrev pub is_space : ℕ → Bool
is_space b = (nat_le 9 b && nat_le b 13) || (b == 32)

-- the numbers of digits that may stand before an `N`
abbrev pub is_width : ℕ → Bool
is_width b = (b == 51) || (b == 54) || (b == 57)

abbrev pub fraction : ℕ → Directive
fraction b = if b == 51 then Millis else if b == 54 then Micros else Nanos

-- what a byte outside a directive adds, and where its reader then is; a run of white space adds
-- `space` once
abbrev pub plain_step : List Directive → ℕ → Option (Place × List Directive)
plain_step space b =
    if is_space b then Some (InSpace, space)
    else if b == 37 then Some (Percent, [])
    else Some (Plain, Byte b ∷ [])

unfoldable pub step : Place → ℕ → Option (Place × List Directive)
step Plain b = plain_step (Space ∷ []) b
step InSpace b = plain_step [] b
step Percent b =
    if is_width b then Some (Width b, [])
    else option_map {U = Place × List Directive} (λ found. (Plain, found)) (directive_of b)
step (Width digits) b = if b == 78 then Some (Plain, fraction digits ∷ []) else None

-- a directive that has begun ends
abbrev pub at_end : Place → Option (List Directive)
at_end Plain = Some []
at_end InSpace = Some []
at_end Percent = None
at_end (Width digits) = None

-- the directives of a text from a place on; none where one is not in the table
unfoldable pub directives : Place → List ℕ → Option (List Directive)
directives place [] = at_end place
directives place (b ∷ bs) =
    option_and_then (λ s. option_map (λ rest. s.1 ++ rest) (directives s.0 bs)) (step place b)

abbrev pub directives_of : List ℕ → Option (List Directive)
directives_of text = directives Plain text

abbrev pub is_epoch : Directive → Bool
is_epoch Epoch = true
is_epoch _ = false

abbrev pub is_day_of_year : Directive → Bool
is_day_of_year DayOfYear = true
is_day_of_year _ = false

abbrev pub is_month : Directive → Bool
is_month Month = true
is_month ShortMonthName = true
is_month MonthName = true
is_month _ = false

abbrev pub is_day : Directive → Bool
is_day Day = true
is_day PaddedDay = true
is_day _ = false

-- seconds since 1970, a day of a month, or a day of a year
abbrev pub names_day : List Directive → Bool
names_day found =
    (list_any is_epoch found || list_any is_day_of_year found)
    || (list_any is_month found && list_any is_day found)

-- the directives of a format; none where one is not in the table, or the format names no day
abbrev pub format : List ℕ → Option (List Directive)
format text = option_and_then (λ found. if names_day found then Some found else None) (directives_of text)

-- a text is refused because it is no format; want of memory may be answered at any time
abbrev pub RefusesFormat : List ℕ → FormatFault → Type 0
RefusesFormat text BadValue = format text ≡ None
RefusesFormat text NoMemory = Unit {0}
