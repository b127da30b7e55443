-- What kind of value an entry of props.conf has. From Splunk's Admin Manual, props.conf.
use Rattle.std.specs.Prelude.{ℕ, ◌==◌, ◌||◌, if◌then◌else◌, Bool, List, [], ◌∷◌, Option, Some, None, is_some, bytes_eq, codes, length}
use Rattle.std.specs.Option.{option_and_then}
use Rattle.ix_conf.specs.declared.layers.MergedEntry.{MergedEntry}
use Rattle.ix_props.specs.declared.kinds.Kind.{Kind}
use Rattle.ix_props.specs.declared.kinds.Kind.TheVariants.{Unread, Stanza, Breaker, Pattern, Boolean, Count, Lookahead, Priority, Format}
use Rattle.ix_props.specs.declared.kinds.Kind.TheVariants.{Zone, Change, Transforms, Name}

-- what stands behind a byte in front
abbrev pub after : ℕ → List ℕ → Option (List ℕ)
after byte [] = None
after byte (b ∷ bs) = if b == byte then Some bs else None

-- what stands behind a prefix of a text
abbrev pub behind : List ℕ → List ℕ → Option (List ℕ)
behind [] text = Some text
behind (p ∷ ps) text = option_and_then (behind ps) (after p text)

abbrev pub begins_with : List ℕ → List ℕ → Bool
begins_with prefix text = is_some (behind prefix text)

-- a stanza of this name has no effect
abbrev pub is_ignored : List ℕ → Bool
is_ignored stanza = begins_with (codes "rule::") stanza || begins_with (codes "delayedrule::") stanza

unfoldable pub class_kind : List ℕ → Kind
class_kind key =
    if begins_with (codes "SEDCMD-") key then Change
    else if begins_with (codes "TRANSFORMS-") key then Transforms
    else if bytes_eq key (codes "priority") then Priority
    else if bytes_eq key (codes "sourcetype") then Name
    else Unread

unfoldable pub time_kind : List ℕ → Kind
time_kind key =
    if bytes_eq key (codes "TIME_PREFIX") then Pattern
    else if bytes_eq key (codes "TIME_FORMAT") then Format
    else if bytes_eq key (codes "MAX_TIMESTAMP_LOOKAHEAD") then Lookahead
    else if bytes_eq key (codes "TZ") then Zone
    else if bytes_eq key (codes "MAX_DAYS_AGO") then Count 0 10_951
    else if bytes_eq key (codes "MAX_DAYS_HENCE") then Count 0 10_950
    else class_kind key

unfoldable pub event_kind : List ℕ → Kind
event_kind key =
    if bytes_eq key (codes "SHOULD_LINEMERGE") then Boolean
    else if bytes_eq key (codes "BREAK_ONLY_BEFORE_DATE") then Boolean
    else if bytes_eq key (codes "BREAK_ONLY_BEFORE") then Pattern
    else if bytes_eq key (codes "MUST_BREAK_AFTER") then Pattern
    else if bytes_eq key (codes "MUST_NOT_BREAK_AFTER") then Pattern
    else if bytes_eq key (codes "MUST_NOT_BREAK_BEFORE") then Pattern
    else if bytes_eq key (codes "MAX_EVENTS") then Count 1 1_000_000
    else time_kind key

abbrev pub key_kind : List ℕ → Kind
key_kind key =
    if bytes_eq key (codes "LINE_BREAKER") then Breaker
    else if bytes_eq key (codes "TRUNCATE") then Count 0 4_294_967_295
    else event_kind key

-- a stanza's own entry has an empty key; an empty value is not read
abbrev pub entry_kind : MergedEntry → Kind
entry_kind e =
    if is_ignored e.stanza then Unread
    else if length e.key == 0 then Stanza
    else if length e.value == 0 then Unread
    else key_kind e.key
