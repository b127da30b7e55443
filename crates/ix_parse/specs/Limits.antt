-- The limits of what a channel states, and the sizes, times and arrivals of the events that it
-- settles.
use Rattle.std.specs.Prelude.{ℕ, ◌+◌, ◌^◌, ◌<◌, ◌≤◌, Bool, List, length, IfSome, unsigned_abs}
use Rattle.std.specs.List.{All}
use Rattle.ix_base.specs.Stream.{Dated}
use Rattle.ix_base.specs.declared.events.ChannelMeta.{ChannelMeta}
use Rattle.ix_base.specs.declared.events.Event.{Event}
use Rattle.ix_base.specs.declared.events.Routed.{Routed}
use Rattle.ix_base.specs.declared.events.Routed.TheVariants.{To, Null}
use Rattle.ix_parse.specs.Form.{IsMoment}
use Rattle.ix_parse.specs.Carry.{HasMoments}
use Rattle.ix_parse.specs.Settled.{settled}
use Rattle.ix_props.specs.Settings.{AreUsable}
use Rattle.ix_props.specs.declared.settings.Settings.{Settings}

-- what a channel states has at most 1,024 bytes, and so has its source type; a source that is a
-- path has at most 4,096
pub record KeepsLimits (settings : Settings) (meta : ChannelMeta) : Type 0 where
  pub host : length meta.host ≤ 1024
  pub source : length meta.source ≤ 4096
  pub sourcetype : length settings.sourcetype ≤ 1024
  pub index : IfSome meta.index (λ name. length name ≤ 1024)

-- how many bytes the fields of an event have together
abbrev pub size_of : Event → ℕ
size_of event =
    length event.index + length event.host + length event.source + length event.sourcetype + length event.meta + length event.raw

-- The fields have together fewer than 2^24 bytes, so the length of a record has 32 bits by far.
abbrev pub IsSmall : Routed → Type 0
IsSmall (To event) = size_of event < 2 ^ 24
IsSmall Null = Unit {0}

-- all that is settled of a channel that keeps the limits is small
abbrev pub EventsAreSmall : Type 0
EventsAreSmall = (s : Settings) (meta : ChannelMeta) (stream : List Dated) (closed : Bool) → KeepsLimits s meta →
    All IsSmall (settled s meta stream closed)

-- the time of an event lies within 2^62 microseconds of the beginning of 1970
abbrev pub IsNear : Routed → Type 0
IsNear (To event) = unsigned_abs event.time ≤ 2 ^ 62
IsNear Null = Unit {0}

-- by settings that can be used, whatever the moments of the stream
abbrev pub TimesAreNear : Type 0
TimesAreNear = (s : Settings) (meta : ChannelMeta) (stream : List Dated) (closed : Bool) → AreUsable s →
    All IsNear (settled s meta stream closed)

-- the arrival of an event lies between the beginning of 1970 and that of 2100
abbrev pub HasArrival : Routed → Type 0
HasArrival (To event) = IsMoment event.arrival
HasArrival Null = Unit {0}

abbrev pub ArrivalsAreMoments : Type 0
ArrivalsAreMoments =
    (s : Settings) (meta : ChannelMeta) (stream : List Dated) (closed : Bool) → HasMoments stream →
    All HasArrival (settled s meta stream closed)
