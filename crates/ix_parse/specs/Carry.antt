-- What is carried of a channel over a stop: a function of its settings and of its stream.
use Rattle.std.specs.Prelude.{◌≡◌, Bool, false, List, ◌++◌, None}
use Rattle.std.specs.List.{AllByRecursion}
use Rattle.ix_base.specs.Stream.{Dated}
use Rattle.ix_base.specs.declared.events.ChannelMeta.{ChannelMeta}
use Rattle.ix_base.specs.declared.events.Routed.{Routed}
use Rattle.ix_parse.specs.Form.{IsMoment}
use Rattle.ix_parse.specs.declared.carry.Carry.{Carry}
use Rattle.ix_parse.specs.declared.carry.CarryRules.{CarryRules}
use Rattle.ix_lines.specs.Breaks.{breaks_by}
use Rattle.ix_lines.specs.Carry as lines
use Rattle.ix_lines.specs.Lines.{effective}
use Rattle.ix_merge.specs.Carry as merging
use Rattle.ix_parse.specs.Marks.{marked}
use Rattle.ix_parse.specs.Settled.{channel_lines, events_of, latest_of, settled}
use Rattle.ix_props.specs.declared.settings.Settings.{Settings}

-- the settings that a carry is judged by
abbrev pub rules_of : Settings → CarryRules
rules_of s = record { truncate = s.truncate; merging = s.merge.on; max_lines = s.merge.max_lines }

-- the byte before the scan place, the bytes that wait there and the open line; the open event and
-- the marks; the latest accepted time
abbrev pub carry_of : Settings → List Dated → Carry
carry_of s stream = record {
  lines = lines.carry_of (breaks_by s.breaker) (effective s.truncate) stream;
  merge = merging.carry_of s.merge.on s.merge.max_lines (marked s.merge s.time (channel_lines s stream false));
  latest = latest_of s.time None (events_of s stream false);
}

-- the moments lie between the beginning of 1970 and that of 2100, as those of each stream that a
-- channel was fed
abbrev pub HasMoments : List Dated → Type 0
HasMoments stream = AllByRecursion (λ d. IsMoment d.1) stream

-- one list of outcomes is added to both
pub record AddSame (first first_longer second second_longer : List Routed) : Type 0 where
  pub added : List Routed
  pub to_first : first_longer ≡ first ++ added
  pub to_second : second_longer ≡ second ++ added

-- two streams of which the same is carried settle the same from there on, under every continuation,
-- open or closed
abbrev pub CarryDecides : Settings → Type 0
CarryDecides s = (meta : ChannelMeta) (stream other later : List Dated) (closed : Bool) → carry_of s stream ≡ carry_of s other →
    AddSame (settled s meta stream false) (settled s meta (stream ++ later) closed) (settled s meta other false)
    (settled s meta (other ++ later) closed)
