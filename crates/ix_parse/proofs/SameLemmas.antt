-- Settings that mean the same settle the same and carry the same.
use Rattle.std.specs.Prelude.{slice_get, replicate, option_and_then, is_some, fold, map, take}
use Rattle.std.specs.List.{AllZip}
use Rattle.std.specs.Option.{option_or, option_map}
use Rattle.std.proofs.Common.{◌≡◌, ◌&&◌, ◌||◌, ℕ, zero, suc, ℤ, Bool, true, false, List, [], ◌∷◌, ◌+◌, ◌-◌, ◌++◌, Option, None, Some, refl}
use Rattle.std.proofs.Common.{sym, ◌∙◌, ap, length, unwrap_or}
use Rattle.ix_base.specs.Stream.{Dated}
use Rattle.ix_base.specs.declared.events.ChannelMeta.{ChannelMeta}
use Rattle.ix_base.specs.declared.events.Event.{Event}
use Rattle.ix_base.specs.declared.events.Line.{Line}
use Rattle.ix_base.specs.declared.events.Routed.{Routed}
use Rattle.ix_parse.specs.declared.carry.Carry.{Carry}
use Rattle.ix_lines.specs.Breaks.{look_at, breaks_by}
use Rattle.ix_lines.specs.Carry as lines
use Rattle.ix_lines.specs.Lines.{effective}
use Rattle.ix_lines.specs.Walk.{BreakFinder}
use Rattle.ix_match.specs.Attempt.{reach}
use Rattle.ix_match.specs.Matches.{ways_from}
use Rattle.ix_match.specs.declared.first.Found.{Found}
use Rattle.ix_merge.specs.Carry as merging
use Rattle.ix_merge.specs.Events as events
use Rattle.ix_merge.specs.Starts.{MarkedLine}
use Rattle.ix_merge.specs.declared.events.Marks.{Marks}
use Rattle.ix_merge.specs.declared.events.Whole.{Whole}
use Rattle.ix_pattern.specs.Piece.{Piece}
use Rattle.ix_pattern.specs.Rows.{Shape, tree}
use Rattle.ix_pattern.specs.Ways.{Way, sight, ways}
use Rattle.ix_props.specs.Same.{MeanSame, BothMeanSame, AreSameMerge, AreSameTime, IsSameSed, IsSameTransform, AreSame}
use Rattle.ix_props.specs.declared.settings.MergeSettings.{MergeSettings}
use Rattle.ix_props.specs.declared.settings.Settings.{Settings}
use Rattle.ix_props.specs.declared.settings.TimeSettings.{TimeSettings}
use Rattle.ix_parse.specs.Carry.{rules_of, carry_of}
use Rattle.ix_parse.specs.Marks.{is_in, marks_of, marked_line, marked}
use Rattle.ix_parse.specs.Settled.{lines_of, channel_lines, events_of, latest_with, time_behind, latest_behind, latest_of, event_of}
use Rattle.ix_parse.specs.Settled.{outcome_of, outcomes, settled}
use Rattle.ix_time.specs.Times.{read}
use Rattle.ix_time.proofs.SameLemmas.{same-ways, same-place, same-reads, same-times}
use Rattle.ix_time.specs.declared.chosen.TimeFound.{TimeFound}
use Rattle.ix_transforms.specs.Changes.{outcome, start, changed}
use Rattle.ix_transforms.specs.Matches.{preferred, first_of, first, behind, and_on, matches_up_to, matches}
use Rattle.ix_transforms.specs.Seds.{chosen, replaced, substituted, sed_text, cut, changed_text}
use Rattle.ix_transforms.specs.Transforms.{destination, searched, given_by, front, with_after, transformed, transformed_by}
use Rattle.ix_transforms.specs.Queues.{value_of, limit_of}
use Rattle.ix_transforms.specs.declared.queues.Queued.{Queued}
use Rattle.ix_conf_values.specs.declared.escapes.Part.{Part}
use Rattle.ix_conf_values.specs.declared.seds.Sed.{Sed}
use Rattle.ix_conf_values.specs.declared.seds.Sed.TheVariants.{Replace, Swap}
use Rattle.ix_conf_values.specs.declared.seds.Which.{Which}
use Rattle.ix_conf_values.specs.declared.transforms.Transform.{Transform}
use Rattle.ix_parse.specs.Same.{SettleTheSame, CarryTheSame}

-- ---- ways

-- a tree and a number of groups as a way of looking for breaks
abbrev looks_by : Piece → ℕ → BreakFinder
looks_by piece groups before bytes unfinished =
    look_at (slice_get (ways piece (sight reach (record { before = before; bytes = bytes; unfinished = unfinished }))
    (record { place = 0; groups = replicate groups None })) 0)

-- patterns that mean the same break at the same places
same-breaks : (p q : Shape) → MeanSame p q → breaks_by p ≡ breaks_by q
same-breaks p q same = ap (λ (t : Piece). looks_by t p.groups) same.trees ∙ ap (λ (n : ℕ). looks_by (tree q.rows) n) same.groups

-- ---- marks

same-is_in : (p q : Option Shape) (text : List ℕ) → BothMeanSame p q → is_in p text ≡ is_in q text
same-is_in None None text same = refl
same-is_in None (Some q) text same = absurd same
same-is_in (Some p) None text same = absurd same
same-is_in (Some p) (Some q) text same = ap (λ (o : Option ℕ). is_some o) (same-place (Some p) (Some q) text same)

abbrev marks_by : Bool → Bool → Bool → Bool → Bool → Bool → Bool → Marks
marks_by on dated before date veto break hold = record {
  wanted = on && (before || (dated && date));
  vetoed = on && veto;
  forces = on && break;
  holds = on && hold;
}

abbrev with_patterns : MergeSettings → MergeSettings → MergeSettings
with_patterns m a = record m { before = a.before; break_after = a.break_after; hold_after = a.hold_after; veto = a.veto }

same-marks : (a b : MergeSettings) (t u : TimeSettings) (line : Line) → AreSameMerge a b → AreSameTime t u →
    marks_of a t line ≡ marks_of b u line
same-marks a b t u line same times =
    let text = line.bytes in
    let on : a.on ≡ b.on = ap (λ (m : MergeSettings). m.on) same.others in
    let dated : a.before_date ≡ b.before_date = ap (λ (m : MergeSettings). m.before_date) same.others in
    let before = same-is_in a.before b.before text same.before in
    let veto = same-is_in a.veto b.veto text same.veto in
    let break = same-is_in a.break_after b.break_after text same.break_after in
    let hold = same-is_in a.hold_after b.hold_after text same.hold_after in
    let date = ap (λ (o : Option ℤ). is_some o) (same-reads t u text line.moment times) in
    λ i. marks_by (on i) (dated i) (before i) (date i) (veto i) (break i) (hold i)

same-marked : (a b : MergeSettings) (t u : TimeSettings) (lines : List Line) → AreSameMerge a b → AreSameTime t u →
    marked a t lines ≡ marked b u lines
same-marked a b t u [] same times = refl
same-marked a b t u (line ∷ lines) same times =
    ap (λ (m : Marks). (let first : MarkedLine = record { line = line; marks = m } in first)
    ∷ marked a t lines) (same-marks a b t u line same times)
    ∙ ap (λ (l : List MarkedLine). marked_line b u line ∷ l) (same-marked a b t u lines same times)

-- ---- changes

same-first_of : (n : ℕ) (p q : Shape) (text : List ℕ) (place : ℕ) → MeanSame p q → first_of n p text place ≡ first_of n q text place
unfolding first_of
same-first_of zero p q text place same = refl
same-first_of (suc n) p q text place same =
    ap (λ (w : List Way). option_or (preferred place w) (first_of n p text (place + 1))) (same-ways p q text place same)
    ∙ ap (option_or (preferred place (ways_from q text place))) (same-first_of n p q text (place + 1) same)

same-first : (p q : Shape) (text : List ℕ) (from : ℕ) → MeanSame p q → first p text from ≡ first q text from
unfolding first
same-first p q text from same = same-first_of (length text + 1 - from) p q text from same

same-matches_up_to : (n : ℕ) (p q : Shape) (text : List ℕ) (from : ℕ) → MeanSame p q →
    matches_up_to n p text from ≡ matches_up_to n q text from
unfolding matches_up_to
same-matches_up_to zero p q text from same = refl
same-matches_up_to (suc n) p q text from same =
    ap (and_on (λ place. matches_up_to n p text place)) (same-first p q text from same)
    ∙ ap (λ (f : ℕ → List Found). and_on f (first q text from)) (λ i place. same-matches_up_to n p q text place same i)

same-matches : (p q : Shape) (text : List ℕ) (from : ℕ) → MeanSame p q → matches p text from ≡ matches q text from
unfolding matches
same-matches p q text from same = same-matches_up_to (length text + 1) p q text from same

same-sed : (a b : Sed) (text : List ℕ) → IsSameSed a b → sed_text a text ≡ sed_text b text
same-sed (Replace p parts which) (Replace q parts' which') text same =
    ap (λ (l : List Part). substituted p l which text) same.1
    ∙ ap (λ (w : Which). substituted p parts' w text) same.2
    ∙ ap (λ (m : List Found). replaced parts' text 0 (chosen which' m)) (same-matches p q text 0 same.0)
same-sed (Replace p parts which) (Swap from to) text same = absurd same
same-sed (Swap from to) (Replace q parts which) text same = absurd same
same-sed (Swap from to) (Swap from' to') text same =
    ap (λ (l : List ℕ). sed_text (Swap l to) text) same.0 ∙ ap (λ (l : List ℕ). sed_text (Swap from' l) text) same.1

same-seds : (a b : List Sed) (text : List ℕ) → AllZip IsSameSed a b →
    fold (λ now sed. cut (sed_text sed now)) text a ≡ fold (λ now sed. cut (sed_text sed now)) text b
same-seds [] [] text same = refl
same-seds [] (b ∷ bs) text same = absurd same
same-seds (a ∷ more) [] text same = absurd same
same-seds (a ∷ more) (b ∷ bs) text same =
    ap (λ (t : List ℕ). fold (λ now sed. cut (sed_text sed now)) (cut t) more) (same-sed a b text same.0)
    ∙ same-seds more bs (cut (sed_text b text)) same.1

abbrev with_regex : Transform → Shape → Transform
with_regex t p = record t { regex = p }

same-transformed : (t : Transform) (p : Shape) (q : Queued) → MeanSame p t.regex → transformed q (with_regex t p) ≡ transformed q t
same-transformed t p q same =
    ap (λ (found : Option Found). with_after (destination t)
    (option_map (λ text. take (limit_of (destination t)) (front t.write_meta q.event.meta ++ text))
    (given_by t (value_of (destination t) q) (searched t q) found)) q) (same-first p t.regex (searched t q) 0 same)

same-transform : (a b : Transform) (q : Queued) → IsSameTransform a b → transformed q a ≡ transformed q b
same-transform a b q same = ap (transformed q) same.others ∙ same-transformed b a.regex q same.regex

same-transforms : (a b : List Transform) (q : Queued) → AllZip IsSameTransform a b → transformed_by a q ≡ transformed_by b q
same-transforms [] [] q same = refl
same-transforms [] (b ∷ bs) q same = absurd same
same-transforms (a ∷ more) [] q same = absurd same
same-transforms (a ∷ more) (b ∷ bs) q same =
    ap (transformed_by more) (same-transform a b q same.0) ∙ same-transforms more bs (transformed q b) same.1

pub same-changed : (a b : List Sed) (c d : List Transform) (event : Event) → AllZip IsSameSed a b → AllZip IsSameTransform c d →
    changed a c event ≡ changed b d event
same-changed a b c d event seds transforms =
    ap (λ (text : List ℕ). outcome (transformed_by c (record { event = record event { raw = text }; queue = (start a event).queue })))
    (same-seds a b (cut event.raw) seds)
    ∙ ap outcome (same-transforms c d (start b event) transforms)

-- ---- all of it

module _ (a b : Settings) (same : AreSame a b) where
  sourcetypes : a.sourcetype ≡ b.sourcetype
  sourcetypes = ap (λ (s : Settings). s.sourcetype) same.others

  truncates : a.truncate ≡ b.truncate
  truncates = ap (λ (s : Settings). s.truncate) same.others

  ons : a.merge.on ≡ b.merge.on
  ons = ap (λ (m : MergeSettings). m.on) same.merge.others

  most : a.merge.max_lines ≡ b.merge.max_lines
  most = ap (λ (m : MergeSettings). m.max_lines) same.merge.others

  looks : breaks_by a.breaker ≡ breaks_by b.breaker
  looks = same-breaks a.breaker b.breaker same.breaker

  lines_same : (stream : List Dated) (closed : Bool) → channel_lines a stream closed ≡ channel_lines b stream closed
  lines_same stream closed = λ i. lines_of (looks i) (effective (truncates i)) stream closed

  marked_same : (stream : List Dated) (closed : Bool) →
      marked a.merge a.time (channel_lines a stream closed) ≡ marked b.merge b.time (channel_lines b stream closed)
  marked_same stream closed =
      ap (marked a.merge a.time) (lines_same stream closed)
      ∙ same-marked a.merge b.merge a.time b.time (channel_lines b stream closed) same.merge same.time

  events_same : (stream : List Dated) (closed : Bool) → events_of a stream closed ≡ events_of b stream closed
  events_same stream false = λ i. events.settled (ons i) (most i) (marked_same stream false i)
  events_same stream true = λ i. events.all_events (ons i) (most i) (marked_same stream true i)

  times_same : (latest : Option ℤ) (event : Whole) → time_behind a.time latest event ≡ time_behind b.time latest event
  times_same latest event = same-times a.time b.time event.raw event.moment latest same.time

  outcome_same : (meta : ChannelMeta) (latest : Option ℤ) (event : Whole) → outcome_of a meta latest event ≡ outcome_of b meta latest event
  outcome_same meta latest event =
      (λ i. changed a.seds a.transforms (event_of (sourcetypes i) meta (times_same latest event i).time event))
      ∙ same-changed a.seds b.seds a.transforms b.transforms (event_of b.sourcetype meta (time_behind b.time latest event).time event)
      same.seds same.transforms

  outcomes_same : (meta : ChannelMeta) (latest : Option ℤ) (whole : List Whole) →
      outcomes a meta latest whole ≡ outcomes b meta latest whole
  outcomes_same meta latest [] = refl
  outcomes_same meta latest (event ∷ whole) =
      ap (λ (r : Routed). r ∷ outcomes a meta (latest_behind a.time latest event) whole) (outcome_same meta latest event)
      ∙ ap (λ (f : TimeFound). outcome_of b meta latest event ∷ outcomes a meta (latest_with f latest) whole) (times_same latest event)
      ∙ ap (λ (l : List Routed). outcome_of b meta latest event ∷ l) (outcomes_same meta (latest_behind b.time latest event) whole)

  latest_same : (latest : Option ℤ) (whole : List Whole) → latest_of a.time latest whole ≡ latest_of b.time latest whole
  latest_same latest [] = refl
  latest_same latest (event ∷ whole) =
      ap (λ (f : TimeFound). latest_of a.time (latest_with f latest) whole) (times_same latest event)
      ∙ latest_same (latest_behind b.time latest event) whole

pub settle : SettleTheSame
settle a b meta stream closed same =
    outcomes_same a b same meta None (events_of a stream closed) ∙ ap (outcomes b meta None) (events_same a b same stream closed)

pub carry : CarryTheSame
carry a b stream same = (
  λ i. record { truncate = truncates a b same i; merging = ons a b same i; max_lines = most a b same i },
  λ i. record {
    lines = lines.carry_of (looks a b same i) (effective (truncates a b same i)) stream;
    merge = merging.carry_of (ons a b same i) (most a b same i) (marked_same a b same stream false i);
    latest = (latest_same a b same None (events_of a stream false) ∙ ap (latest_of b.time None) (events_same a b same stream false)) i;
  },
)
