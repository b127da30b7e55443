use Rattle.std.proofs.Common.{◌∙◌, ap, sym, subst, ◌++◌, ◌+◌, ◌*◌, ◌<◌, ◌≤◌, List, false, length, w64}
use Rattle.std.specs.List.{All}
use Rattle.std.proofs.lemmas.List.Elements.{All-nil}
use mir.Val.{SFits}
use Rattle.std.proofs.lemmas.Int.{to_z-of_z}
use Rattle.ix_base.specs.Clocks.{clamped}
use Rattle.ix_base.specs.Stream.{dated}
use Rattle.ix_base.specs.declared.events.Routed.{Routed}
use Rattle.ix_lines.specs.Breaks.{breaks_by}
use Rattle.ix_lines.specs.Lines.{effective, IsShort}
use Rattle.ix_lines.specs.Parts.{Held, moved}
use Rattle.ix_props.specs.declared.settings.Settings.{Settings}
use Rattle.ix_parse.specs.Limits.{KeepsLimits, IsSmall}
use Rattle.ix_parse.specs.Settled.{settled}
use Rattle.ix_parse.specs.Standing.{Kept, StandsFor}
use Rattle.ix_parse.proofs.LineLemmas.{fed-lines}
use Rattle.ix_parse.proofs.ResultLemmas.{if-ok, if-ok-both}
use Rattle.ix_parse.proofs.StandLemmas.{goes-on}
use Rattle.ix_parse.proofs.channel.Channel.fed.Goals as goal

pub taken-requires : goal.taken-requires
taken-requires g c = c.feed.ensures.short (subst (All IsShort) (sym c.new-settled.ensures) (All-nil IsShort))

pub gone_on-requires : goal.gone_on-requires
gone_on-requires g c = c.in_ok-merge.ensures.whole

pub returns-clause-settles : goal.returns-clause-settles
returns-clause-settles g c = if-ok-both c.gone_on.result c.gone_on.ensures.kept c.gone_on.ensures.routed
    (λ fed kept routed settings meta stream is.
    let f : SFits w64 c.args.moment = c.ranges.moment in
    let later = dated c.args.bytes.now (clamped c.args.moment) in
    let r = fed-lines (breaks_by settings.breaker) (effective settings.truncate) stream later c.args.self.now.lines c.in_ok-lines.lines
    c.feed.new.self
    c.new-settled.result c.feed.new.out is.breaks_are is.lines_are (c.in_ok-lines.ensures
    ∙ c.deref.ensures ∙ ap (λ (v : Kept). v.lines) c.self.view_is) c.new-settled.ensures
    c.feed.ensures.breaker c.feed.ensures.truncate (λ s stands. simp to_z-of_z at (c.in_ok-feed.ensures.ok s stands)) in
    let o = goes-on settings meta stream (stream ++ later) c.feed.new.out c.in_ok-merge.merge c.in_ok-merge.outcomes r.2
    (c.in_ok-merge.ensures.takes settings meta stream is) in (
      subst (StandsFor settings meta (stream ++ later)) (sym kept) (record {
        settings_are = is.settings_are;
        meta_is = is.meta_is;
        breaks_are = r.0;
        lines_are = r.1;
        merges = o.merges;
        most_lines = o.most_lines;
        events_are = o.events_are;
        latest_is = o.latest_is;
      }),
      o.settles ∙ ap (λ (l : List Routed). settled settings meta stream false ++ l) (sym routed),
    ))

pub returns-clause-small : goal.returns-clause-small
returns-clause-small g c = if-ok c.gone_on.result c.gone_on.ensures.routed (λ fed routed settings meta stream is limits.
    let k = c.args.self.now in
    let now : KeepsLimits k.settings k.meta =
    subst (λ (s : Settings). KeepsLimits s k.meta) (sym is.settings_are) (subst (KeepsLimits settings) (sym is.meta_is) limits) in
    subst (All IsSmall) (sym routed) (c.in_ok-merge.ensures.small now))

pub returns-clause-counted : goal.returns-clause-counted
returns-clause-counted g c = if-ok c.gone_on.result c.gone_on.ensures.kept (λ fed kept.
    let n = length c.args.bytes.now in
    subst (λ (new : Kept). c.feed.new.steps ≤ c.args.steps.now + c.args.self.now.lines.breaker.weight * 512 *
    (moved c.args.self.now.lines n new.lines + 1)) (sym kept)
    (subst (λ (old : Held). c.feed.new.steps ≤ c.args.steps.now + old.breaker.weight * 512 * (moved old n c.feed.new.self + 1))
    (c.in_ok-lines.ensures ∙ c.deref.ensures ∙ ap (λ (v : Kept). v.lines) c.self.view_is) c.in_ok-feed.ensures.counted))

pub returns-clause-again : goal.returns-clause-again
returns-clause-again g c = if-ok c.gone_on.result c.gone_on.ensures.kept (λ fed kept.
    let n = length c.args.bytes.now in
    subst (λ (new : Kept). 0 < length c.args.self.now.lines.parts.pending →
    c.feed.new.steps ≤ c.args.steps.now + c.args.self.now.lines.breaker.weight * 512 * moved c.args.self.now.lines n new.lines) (sym kept)
    (subst (λ (old : Held). 0 < length old.parts.pending →
    c.feed.new.steps ≤ c.args.steps.now + old.breaker.weight * 512 * moved old n c.feed.new.self)
    (c.in_ok-lines.ensures ∙ c.deref.ensures ∙ ap (λ (v : Kept). v.lines) c.self.view_is) c.in_ok-feed.ensures.again))
