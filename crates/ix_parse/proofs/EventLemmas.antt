-- The outcomes of events, and lines on their way to them.
use Rattle.std.proofs.Common.{◌≡◌, ℕ, ℤ, Bool, List, [], ◌∷◌, ◌++◌, Option, refl, sym, ◌∙◌, ap, subst, append_assoc}
use Rattle.std.proofs.lemmas.List.{append-nil, map-append}
use Rattle.std.proofs.lemmas.List.Sums.{fold-append}
use Rattle.ix_base.specs.declared.events.ChannelMeta.{ChannelMeta}
use Rattle.ix_base.specs.declared.events.Line.{Line}
use Rattle.ix_base.specs.declared.events.Routed.{Routed}
use Rattle.ix_merge.specs.Events.{settled}
use Rattle.ix_merge.specs.Stands.{Merging, Holds}
use Rattle.ix_merge.specs.Starts.{MarkedLine}
use Rattle.ix_merge.specs.declared.events.Whole.{Whole}
use Rattle.ix_props.specs.declared.settings.Settings.{Settings}
use Rattle.ix_props.specs.declared.settings.TimeSettings.{TimeSettings}
use Rattle.ix_parse.specs.Marks.{marked_line, marked}
use Rattle.ix_parse.specs.Settled.{outcome_of, outcomes, latest_behind, latest_of}
use Rattle.ix_parse.specs.Stage.{with_events, Takes}
use Rattle.ix_parse.specs.declared.outcomes.Outcomes.{Outcomes}

-- ---- events with others behind them

pub latest-append : (t : TimeSettings) (latest : Option ℤ) (first more : List Whole) →
    latest_of t latest (first ++ more) ≡ latest_of t (latest_of t latest first) more
latest-append t latest first more = fold-append (latest_behind t) latest first more

pub outcomes-append : (s : Settings) (meta : ChannelMeta) (latest : Option ℤ) (first more : List Whole) →
    outcomes s meta latest (first ++ more) ≡ outcomes s meta latest first ++ outcomes s meta (latest_of s.time latest first) more
outcomes-append s meta latest [] more = refl
outcomes-append s meta latest (event ∷ first) more =
    ap (λ (l : List Routed). outcome_of s meta latest event ∷ l) (outcomes-append s meta (latest_behind s.time latest event) first more)

-- ---- what events come to, as it is kept

made : (l l' : Option ℤ) (r r' : List Routed) → l ≡ l' → r ≡ r' →
    let o : Outcomes = record { latest = l; routed = r } in let o' : Outcomes = record { latest = l'; routed = r' } in o ≡ o'
made l l' r r' e f =
    ap (λ (x : Option ℤ). let o : Outcomes = record { latest = x; routed = r } in o) e
    ∙ ap (λ (x : List Routed). let o : Outcomes = record { latest = l'; routed = x } in o) f

with-more : (s : Settings) (meta : ChannelMeta) (o : Outcomes) (first more : List Whole) →
    with_events s meta (with_events s meta o first) more ≡ with_events s meta o (first ++ more)
with-more s meta o first more =
    let mid : Option ℤ = latest_of s.time o.latest first in
    made (latest_of s.time mid more) (latest_of s.time o.latest (first ++ more))
    ((o.routed ++ outcomes s meta o.latest first) ++ outcomes s meta mid more) (o.routed ++ outcomes s meta o.latest (first ++ more))
    (sym (latest-append s.time o.latest first more))
    (append_assoc o.routed (outcomes s meta o.latest first) (outcomes s meta mid more)
    ∙ ap (λ (l : List Routed). o.routed ++ l) (sym (outcomes-append s meta o.latest first more)))

pub with-both : (s : Settings) (meta : ChannelMeta) (before between behind : Outcomes) (first more : List Whole) →
    between ≡ with_events s meta before first → behind ≡ with_events s meta between more →
    behind ≡ with_events s meta before (first ++ more)
with-both s meta before between behind first more e f =
    f ∙ ap (λ (o : Outcomes). with_events s meta o more) e ∙ with-more s meta before first more

-- ---- lines that are taken in

-- the lines that are taken in behind others and further ones are those of one list
together : (s : Settings) (earlier : List MarkedLine) (lines more : List Line) →
    earlier ++ marked s.merge s.time (lines ++ more) ≡ (earlier ++ marked s.merge s.time lines) ++ marked s.merge s.time more
together s earlier lines more =
    ap (λ (l : List MarkedLine). earlier ++ l) (map-append (marked_line s.merge s.time) lines more)
    ∙ sym (append_assoc earlier (marked s.merge s.time lines) (marked s.merge s.time more))

pub takes-none : (s : Settings) (meta : ChannelMeta) (earlier : List MarkedLine) (merge : Merging) (o : Outcomes) → Holds earlier merge →
    Takes s meta earlier [] merge merge o o
takes-none s meta earlier merge o holds = record {
  added = [];
  holds = subst (λ (l : List MarkedLine). Holds l merge) (sym (append-nil earlier)) holds;
  settles = ap (settled merge.on merge.max_lines) (append-nil earlier) ∙ sym (append-nil (settled merge.on merge.max_lines earlier));
  outcomes_are = made o.latest o.latest o.routed (o.routed ++ []) refl (sym (append-nil o.routed));
}

pub takes-more : (s : Settings) (meta : ChannelMeta) (earlier : List MarkedLine) (lines more : List Line) (old mid new : Merging)
    (before between behind : Outcomes) → mid.on ≡ old.on → mid.max_lines ≡ old.max_lines →
    Takes s meta earlier lines old mid before between →
    Takes s meta (earlier ++ marked s.merge s.time lines) more mid new between behind →
    Takes s meta earlier (lines ++ more) old new before behind
takes-more s meta earlier lines more old mid new before between behind on max first then =
    let e = together s earlier lines more in
    let all : List MarkedLine = earlier ++ marked s.merge s.time lines in
    let longer : List MarkedLine = all ++ marked s.merge s.time more in
    let settles : settled old.on old.max_lines longer ≡ settled old.on old.max_lines all ++ then.added =
    subst (λ (b : Bool). settled b old.max_lines longer ≡ settled b old.max_lines all ++ then.added) on
    (subst (λ (n : ℕ). settled mid.on n longer ≡ settled mid.on n all ++ then.added) max then.settles) in
    record {
      added = first.added ++ then.added;
      holds = subst (λ (l : List MarkedLine). Holds l new) (sym e) then.holds;
      settles = ap (settled old.on old.max_lines) e ∙ settles ∙ ap (λ (l : List Whole). l ++ then.added) first.settles
          ∙ append_assoc (settled old.on old.max_lines earlier) first.added then.added;
      outcomes_are = with-both s meta before between behind first.added then.added first.outcomes_are then.outcomes_are;
    }
