-- What a channel stands for, from block to block.
use Rattle.std.proofs.Common.{◌≡◌, ℕ, ℤ, Bool, true, false, List, [], ◌++◌, Option, None, sym, ◌∙◌, ap, subst, append_assoc}
use Rattle.std.proofs.lemmas.List.{map-append}
use Rattle.ix_base.specs.Stream.{Dated}
use Rattle.ix_base.specs.declared.events.ChannelMeta.{ChannelMeta}
use Rattle.ix_base.specs.declared.events.Line.{Line}
use Rattle.ix_base.specs.declared.events.Routed.{Routed}
use Rattle.ix_lines.specs.Breaks.{breaks_by}
use Rattle.ix_lines.specs.Laws.{LinesStay}
use Rattle.ix_lines.specs.Lines.{effective}
use Rattle.ix_lines.specs.Parts.{Held}
use Rattle.ix_merge.specs.Events as events
use Rattle.ix_merge.specs.Laws.{EventsStay}
use Rattle.ix_merge.specs.Stands.{Merging, Holds}
use Rattle.ix_merge.specs.Starts.{MarkedLine}
use Rattle.ix_merge.specs.declared.events.Whole.{Whole}
use Rattle.ix_props.specs.declared.settings.Settings.{Settings}
use Rattle.ix_parse.specs.Marks.{marked_line, marked}
use Rattle.ix_parse.specs.Settled.{channel_lines, events_of, latest_of, outcomes, settled, SettledStays}
use Rattle.ix_parse.specs.Stage.{Takes, TakesEnd, TakenIn}
use Rattle.ix_parse.specs.Standing.{Kept, StandsFor}
use Rattle.ix_parse.specs.declared.outcomes.Outcomes.{Outcomes}
use Rattle.ix_parse.proofs.EventLemmas.{latest-append, outcomes-append}

-- ---- the marked lines and the events of a longer list of lines

-- the marked lines of an open stream
abbrev pub marked_of : Settings → List Dated → List MarkedLine
marked_of s stream = marked s.merge s.time (channel_lines s stream false)

pub more-marked : (s : Settings) (all first more : List Line) → all ≡ first ++ more →
    marked s.merge s.time all ≡ marked s.merge s.time first ++ marked s.merge s.time more
more-marked s all first more e = ap (marked s.merge s.time) e ∙ map-append (marked_line s.merge s.time) first more

-- ---- what is settled stays settled

pub stays : (s : Settings) → LinesStay (breaks_by s.breaker) → ((on : Bool) (max : ℕ) → EventsStay on max) → SettledStays s
stays s lines-stay events-stay meta stream later false =
    let l = (lines-stay (effective s.truncate) stream later).0 in
    let e = (events-stay s.merge.on s.merge.max_lines (marked_of s stream) (marked s.merge s.time l.0)).0 in
    let all : events_of s (stream ++ later) false ≡ events_of s stream false ++ e.0 =
    ap (events.settled s.merge.on s.merge.max_lines) (more-marked s (channel_lines s (stream ++ later) false) (channel_lines s stream false)
    l.0 l.1) ∙ e.1 in (
      outcomes s meta (latest_of s.time None (events_of s stream false)) e.0,
      ap (outcomes s meta None) all ∙ outcomes-append s meta None (events_of s stream false) e.0,
    )
stays s lines-stay events-stay meta stream later true =
    let l = (lines-stay (effective s.truncate) stream later).1 in
    let e = (events-stay s.merge.on s.merge.max_lines (marked_of s stream) (marked s.merge s.time l.0)).1 in
    let all : events_of s (stream ++ later) true ≡ events_of s stream false ++ e.0 =
    ap (events.all_events s.merge.on s.merge.max_lines)
    (more-marked s (channel_lines s (stream ++ later) true) (channel_lines s stream false) l.0 l.1) ∙ e.1 in (
      outcomes s meta (latest_of s.time None (events_of s stream false)) e.0,
      ap (outcomes s meta None) all ∙ outcomes-append s meta None (events_of s stream false) e.0,
    )

-- ---- events behind those of a stream

-- what stands of the events when further bytes have come
pub record GoesOn (s : Settings) (meta : ChannelMeta) (stream longer : List Dated) (merge : Merging) (behind : Outcomes) : Type 0 where
  pub merges : merge.on ≡ s.merge.on
  pub most_lines : merge.max_lines ≡ s.merge.max_lines
  pub events_are : Holds (marked_of s longer) merge
  pub latest_is : behind.latest ≡ latest_of s.time None (events_of s longer false)
  pub settles : settled s meta longer false ≡ settled s meta stream false ++ behind.routed

-- settled by the names that a value has for the settings
settled-as : (on on' : Bool) (max max' : ℕ) (lines : List MarkedLine) → on ≡ on' → max ≡ max' →
    events.settled on max lines ≡ events.settled on' max' lines
settled-as on on' max max' lines e f = ap (λ (b : Bool). events.settled b max lines) e ∙ ap (λ (n : ℕ). events.settled on' n lines) f

all-as : (on on' : Bool) (max max' : ℕ) (lines : List MarkedLine) → on ≡ on' → max ≡ max' →
    events.all_events on max lines ≡ events.all_events on' max' lines
all-as on on' max max' lines e f = ap (λ (b : Bool). events.all_events b max lines) e ∙ ap (λ (n : ℕ). events.all_events on' n lines) f

-- a copy of what a channel keeps, which takes in more lines
pub record Copied (s : Settings) (meta : ChannelMeta) (stream : List Dated) (copy : Merging) (before : Outcomes) : Type 0 where
  pub merges : copy.on ≡ s.merge.on
  pub most_lines : copy.max_lines ≡ s.merge.max_lines
  pub events_are : Holds (marked_of s stream) copy
  pub latest_is : before.latest ≡ latest_of s.time None (events_of s stream false)
  pub empty : before.routed ≡ []

pub copied : (s : Settings) (meta : ChannelMeta) (stream : List Dated) (k : Kept) (copy : Merging) (before : Outcomes) →
    StandsFor s meta stream k → copy ≡ k.merge → before.latest ≡ k.latest → before.routed ≡ [] → Copied s meta stream copy before
copied s meta stream k copy before is same latest empty = record {
  merges = ap (λ (m : Merging). m.on) same ∙ is.merges;
  most_lines = ap (λ (m : Merging). m.max_lines) same ∙ is.most_lines;
  events_are = subst (Holds (marked_of s stream)) (sym same) is.events_are;
  latest_is = latest ∙ is.latest_is;
  empty = empty;
}

-- and what they come to
pub taken-in : (s : Settings) (meta : ChannelMeta) (stream : List Dated) (lines : List Line) (copy new : Merging)
    (before behind : Outcomes) →
    Copied s meta stream copy before → new.on ≡ copy.on → new.max_lines ≡ copy.max_lines →
    Takes s meta (marked_of s stream) lines copy new before behind → TakenIn s meta stream lines new behind
taken-in s meta stream lines copy new before behind c on max t =
    let all : List MarkedLine = marked_of s stream ++ marked s.merge s.time lines in
    record {
      merges = on ∙ c.merges;
      most_lines = max ∙ c.most_lines;
      holds = t.holds;
      added = t.added;
      settles = settled-as s.merge.on copy.on s.merge.max_lines copy.max_lines all (sym c.merges) (sym c.most_lines)
          ∙ t.settles
          ∙ ap (λ (l : List Whole). l ++ t.added) (settled-as copy.on s.merge.on copy.max_lines s.merge.max_lines (marked_of s stream)
          c.merges c.most_lines);
      latest_is = ap (λ (o : Outcomes). o.latest) t.outcomes_are ∙ ap (λ (l : Option ℤ). latest_of s.time l t.added) c.latest_is;
      routed_is = ap (λ (o : Outcomes). o.routed) t.outcomes_are
          ∙ ap (λ (l : List Routed). l ++ outcomes s meta before.latest t.added) c.empty
          ∙ ap (λ (l : Option ℤ). outcomes s meta l t.added) c.latest_is;
    }

pub goes-on : (s : Settings) (meta : ChannelMeta) (stream longer : List Dated) (more : List Line) (merge : Merging) (behind : Outcomes) →
    channel_lines s longer false ≡ channel_lines s stream false ++ more → TakenIn s meta stream more merge behind →
    GoesOn s meta stream longer merge behind
goes-on s meta stream longer more merge behind e t =
    let m = more-marked s (channel_lines s longer false) (channel_lines s stream false) more e in
    let first : List Whole = events_of s stream false in
    let all : events_of s longer false ≡ first ++ t.added = ap (events.settled s.merge.on s.merge.max_lines) m ∙ t.settles in
    record {
      merges = t.merges;
      most_lines = t.most_lines;
      events_are = subst (λ (l : List MarkedLine). Holds l merge) (sym m) t.holds;
      latest_is = t.latest_is ∙ sym (latest-append s.time None first t.added) ∙ ap (latest_of s.time None) (sym all);
      settles = ap (outcomes s meta None) all ∙ outcomes-append s meta None first t.added
          ∙ ap (λ (l : List Routed). outcomes s meta None first ++ l) (sym t.routed_is);
    }

pub comes-to-end : (s : Settings) (meta : ChannelMeta) (stream : List Dated) (more : List Line) (merge : Merging)
    (between behind : Outcomes) →
    channel_lines s stream true ≡ channel_lines s stream false ++ more → TakenIn s meta stream more merge between →
    TakesEnd s meta (marked_of s stream ++ marked s.merge s.time more) merge between behind →
    settled s meta stream true ≡ settled s meta stream false ++ behind.routed
comes-to-end s meta stream more merge between behind e t end =
    let marks : List MarkedLine = marked_of s stream ++ marked s.merge s.time more in
    let first : List Whole = events_of s stream false in
    let latest : Option ℤ = latest_of s.time None first in
    let all : events_of s stream true ≡ first ++ (t.added ++ end.added) =
    ap (events.all_events s.merge.on s.merge.max_lines) (more-marked s (channel_lines s stream true) (channel_lines s stream false) more e)
    ∙ all-as s.merge.on merge.on s.merge.max_lines merge.max_lines marks (sym t.merges) (sym t.most_lines)
    ∙ end.settles
    ∙ ap (λ (l : List Whole). l ++ end.added)
    (settled-as merge.on s.merge.on merge.max_lines s.merge.max_lines marks t.merges t.most_lines ∙ t.settles)
    ∙ append_assoc first t.added end.added in
    let routed : behind.routed ≡ outcomes s meta latest (t.added ++ end.added) =
    ap (λ (o : Outcomes). o.routed) end.outcomes_are
    ∙ ap (λ (l : List Routed). l ++ outcomes s meta between.latest end.added) t.routed_is
    ∙ ap (λ (l : Option ℤ). outcomes s meta latest t.added ++ outcomes s meta l end.added) t.latest_is
    ∙ sym (outcomes-append s meta latest t.added end.added) in
    ap (outcomes s meta None) all ∙ outcomes-append s meta None first (t.added ++ end.added)
    ∙ ap (λ (l : List Routed). outcomes s meta None first ++ l) (sym routed)

-- a channel with a copy of the settings and of the metadata
pub same-kept : (s s' : Settings) (meta meta' : ChannelMeta) (lines lines' : Held) (merge : Merging) (latest : Option ℤ) →
    s ≡ s' → meta ≡ meta' → lines ≡ lines' →
    let k : Kept = record { settings = s; meta = meta; lines = lines; merge = merge; latest = latest } in
    let k' : Kept = record { settings = s'; meta = meta'; lines = lines'; merge = merge; latest = latest } in k ≡ k'
same-kept s s' meta meta' lines lines' merge latest e f h =
    ap (λ (x : Settings). let k : Kept = record { settings = x; meta = meta; lines = lines; merge = merge; latest = latest } in k) e
    ∙ ap (λ (x : ChannelMeta). let k : Kept = record { settings = s'; meta = x; lines = lines; merge = merge; latest = latest } in k) f
    ∙ ap (λ (x : Held). let k : Kept = record { settings = s'; meta = meta'; lines = x; merge = merge; latest = latest } in k) h

-- lines are taken in by what a channel keeps, which is what was stated
pub as-stated : (s s' : Settings) (meta meta' : ChannelMeta) (earlier : List MarkedLine) (lines : List Line) (old new : Merging)
    (before behind : Outcomes) →
    s' ≡ s → meta' ≡ meta → Takes s' meta' earlier lines old new before behind → Takes s meta earlier lines old new before behind
as-stated s s' meta meta' earlier lines old new before behind e f t =
    subst (λ (m : ChannelMeta). Takes s m earlier lines old new before behind) f
    (subst (λ (x : Settings). Takes x meta' earlier lines old new before behind) e t)

pub end-as-stated : (s s' : Settings) (meta meta' : ChannelMeta) (lines : List MarkedLine) (merge : Merging) (before behind : Outcomes) →
    s' ≡ s → meta' ≡ meta → TakesEnd s' meta' lines merge before behind → TakesEnd s meta lines merge before behind
end-as-stated s s' meta meta' lines merge before behind e f t =
    subst (λ (m : ChannelMeta). TakesEnd s m lines merge before behind) f
    (subst (λ (x : Settings). TakesEnd x meta' lines merge before behind) e t)
