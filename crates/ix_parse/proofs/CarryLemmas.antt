-- What is carried decides what further bytes come to.
use Rattle.std.proofs.Common.{◌≡◌, ℕ, ℤ, Bool, true, false, List, ◌++◌, Option, None, refl, sym, ◌∙◌, ap, subst}
use Rattle.ix_base.specs.declared.events.ChannelMeta.{ChannelMeta}
use Rattle.ix_parse.specs.declared.carry.Carry.{Carry}
use Rattle.ix_lines.specs.Breaks.{breaks_by}
use Rattle.ix_lines.specs.Laws as lines
use Rattle.ix_lines.specs.Lines.{effective}
use Rattle.ix_merge.specs.Carry as merged
use Rattle.ix_merge.specs.Events as events
use Rattle.ix_merge.specs.Laws as merging
use Rattle.ix_merge.specs.Sizes.{HasForm}
use Rattle.ix_merge.specs.Stands.{Merging, Holds}
use Rattle.ix_merge.specs.Starts.{MarkedLine}
use Rattle.ix_merge.specs.declared.carry.MergeParts.{MergeParts}
use Rattle.ix_merge.specs.declared.events.Whole.{Whole}
use Rattle.ix_props.specs.declared.settings.Settings.{Settings}
use Rattle.ix_parse.specs.Carry.{CarryDecides}
use Rattle.ix_parse.specs.Marks.{marked}
use Rattle.ix_parse.specs.Settled.{channel_lines, events_of, latest_of, outcomes}
use Rattle.ix_parse.proofs.EventLemmas.{outcomes-append}
use Rattle.ix_parse.proofs.StandLemmas.{marked_of, more-marked}

-- events behind those of a stream
more : (s : Settings) (meta : ChannelMeta) (latest : Option ℤ) (all first added : List Whole) → all ≡ first ++ added →
    latest ≡ latest_of s.time None first →
    outcomes s meta None all ≡ outcomes s meta None first ++ outcomes s meta latest added
more s meta latest all first added e is =
    ap (outcomes s meta None) e ∙ outcomes-append s meta None first added
    ∙ ap (λ (l : Option ℤ). outcomes s meta None first ++ outcomes s meta l added) (sym is)

pub decides : (s : Settings) → lines.CarryDecides (breaks_by s.breaker) → ((on : Bool) (max : ℕ) → merging.CarryDecides on max) →
    CarryDecides s
decides s line-law event-law meta stream other later false same =
    let l = (line-law (effective s.truncate) stream other later (ap (λ (c : Carry). c.lines) same)).settles in
    let e = (event-law s.merge.on s.merge.max_lines (marked_of s stream) (marked_of s other) (marked s.merge s.time l.added)
    (ap (λ (c : Carry). c.merge) same)).settles in
    let latest : Option ℤ = latest_of s.time None (events_of s stream false) in
    let all = ap (events.settled s.merge.on s.merge.max_lines)
    (more-marked s (channel_lines s (stream ++ later) false) (channel_lines s stream false) l.added l.to_first) ∙ e.to_first in
    let all' = ap (events.settled s.merge.on s.merge.max_lines)
    (more-marked s (channel_lines s (other ++ later) false) (channel_lines s other false) l.added l.to_second) ∙ e.to_second in
    record {
      added = outcomes s meta latest e.added;
      to_first = more s meta latest (events_of s (stream ++ later) false) (events_of s stream false) e.added all refl;
      to_second = more s meta latest (events_of s (other ++ later) false) (events_of s other false) e.added all'
          (ap (λ (c : Carry). c.latest) same);
    }
decides s line-law event-law meta stream other later true same =
    let l = (line-law (effective s.truncate) stream other later (ap (λ (c : Carry). c.lines) same)).ends in
    let e = (event-law s.merge.on s.merge.max_lines (marked_of s stream) (marked_of s other) (marked s.merge s.time l.added)
    (ap (λ (c : Carry). c.merge) same)).ends in
    let latest : Option ℤ = latest_of s.time None (events_of s stream false) in
    let all = ap (events.all_events s.merge.on s.merge.max_lines)
    (more-marked s (channel_lines s (stream ++ later) true) (channel_lines s stream false) l.added l.to_first) ∙ e.to_first in
    let all' = ap (events.all_events s.merge.on s.merge.max_lines)
    (more-marked s (channel_lines s (other ++ later) true) (channel_lines s other false) l.added l.to_second) ∙ e.to_second in
    record {
      added = outcomes s meta latest e.added;
      to_first = more s meta latest (events_of s (stream ++ later) true) (events_of s stream false) e.added all refl;
      to_second = more s meta latest (events_of s (other ++ later) true) (events_of s other false) e.added all'
          (ap (λ (c : Carry). c.latest) same);
    }

-- carries with the same parts are the same
pub same-carry : (a b : Carry) → a.lines ≡ b.lines → a.merge ≡ b.merge → a.latest ≡ b.latest → a ≡ b
same-carry a b lines merge latest = λ i. record { lines = lines i; merge = merge i; latest = latest i }

-- what is carried of a copy of what a channel keeps of its events
pub carried-events : (s : Settings) (marks : List MarkedLine) (old copy : Merging) (parts : MergeParts) →
    old.on ≡ s.merge.on → old.max_lines ≡ s.merge.max_lines → Holds marks old → copy ≡ old →
    ((lines : List MarkedLine) → Holds lines copy → parts ≡ merged.carry_of copy.on copy.max_lines lines) →
    HasForm copy.on copy.max_lines parts →
    (parts ≡ merged.carry_of s.merge.on s.merge.max_lines marks)
    × HasForm s.merge.on s.merge.max_lines (merged.carry_of s.merge.on s.merge.max_lines marks)
carried-events s marks old copy parts on max holds same carries form =
    let b : copy.on ≡ s.merge.on = ap (λ (m : Merging). m.on) same ∙ on in
    let n : copy.max_lines ≡ s.merge.max_lines = ap (λ (m : Merging). m.max_lines) same ∙ max in
    let e : parts ≡ merged.carry_of s.merge.on s.merge.max_lines marks =
    carries marks (subst (Holds marks) (sym same) holds)
    ∙ ap (λ (x : Bool). merged.carry_of x copy.max_lines marks) b ∙ ap (λ (x : ℕ). merged.carry_of s.merge.on x marks) n in (
      e,
      subst (HasForm s.merge.on s.merge.max_lines) e
          (subst (λ (x : Bool). HasForm x s.merge.max_lines parts) b (subst (λ (x : ℕ). HasForm copy.on x parts) n form)),
    )
