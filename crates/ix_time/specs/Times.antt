-- The time of an event. From Splunk's Admin Manual, "How timestamp assignment works" and
-- props.conf.
use Rattle.std.specs.Prelude.{ℕ, ℤ, List, Option, Some, None, option_and_then}
use Rattle.jiff_tz.specs.PosixReader.{read_whole}
use Rattle.jiff_tz.specs.PosixText.{TzText}
use Rattle.ix_base.specs.Clocks.{clamped}
use Rattle.ix_conf_values.specs.declared.formats.Directive.{Directive}
use Rattle.ix_props.specs.declared.settings.TimeSettings.{TimeSettings}
use Rattle.ix_time.specs.declared.chosen.TimeFound.{TimeFound}
use Rattle.ix_time.specs.Chosen.{settle}
use Rattle.ix_time.specs.Instants.{by_format}
use Rattle.ix_time.specs.Scan.{first_time}
use Rattle.ix_time.specs.Window.{place_of, window}

-- with a format what it reads at the front of the window, and without one the first time in the
-- window
abbrev pub read_in : TzText → ℤ → Option (List Directive) → List ℕ → Option ℤ
read_in zone arrival None text = first_time zone arrival text
read_in zone arrival (Some format) text = by_format zone arrival format text

-- The instant that a text says, in microseconds since 1970-01-01T00:00:00Z, for an event that
-- arrived at this moment: what reads in the window behind the prefix, in the zone of the settings
-- where the text names none.
unfoldable pub read : TimeSettings → List ℕ → ℤ → Option ℤ
read s text moment =
    option_and_then (λ zone. option_and_then (λ place.
    read_in zone (clamped moment) s.format (window s.lookahead text place))
    (place_of s.prefix text))
    (read_whole s.zone)

-- the time of an event: the one that its text says, within the limits of age, else the last
-- accepted one, else the arrival
unfoldable pub time : TimeSettings → List ℕ → ℤ → Option ℤ → TimeFound
time s text arrival last = settle (read s text arrival) (clamped arrival) s.days_ago s.days_hence last
