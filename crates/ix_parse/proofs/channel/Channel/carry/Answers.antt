use Rattle.std.proofs.Common.{◌∙◌, ap, subst}
use Rattle.ix_parse.specs.Spelling.{spell}
use Rattle.ix_lines.specs.Breaks.{breaks_by}
use Rattle.ix_lines.specs.Lines.{effective}
use Rattle.ix_props.specs.Settings.{AreUsable}
use Rattle.ix_parse.specs.Carry.{carry_of}
use Rattle.ix_parse.specs.Standing.{Kept}
use Rattle.ix_parse.proofs.CarryLemmas.{same-carry, carried-events}
use Rattle.ix_parse.proofs.FormLemmas.{carry-form}
use Rattle.ix_parse.proofs.LineLemmas.{carried-lines}
use Rattle.ix_parse.proofs.ResultLemmas.{if-ok}
use Rattle.ix_parse.proofs.StandLemmas.{marked_of}
use Rattle.ix_parse.proofs.channel.Channel.carry.Goals as goal

pub returns-clause-spelled : goal.returns-clause-spelled
returns-clause-spelled c = if-ok c.write.result c.write.ensures (λ bytes written settings meta stream is.
    let k = c.args.self.now in
    let l = carried-lines (breaks_by settings.breaker) (effective settings.truncate) stream k.lines c.deref.result.now c.in_ok-lines.lines
    is.breaks_are is.lines_are (c.deref.ensures ∙ ap (λ (v : Kept). v.lines) c.self.view_is) c.in_ok-lines.ensures.carry c.in_ok-lines.ensures.pending in
    let m = carried-events settings (marked_of settings stream) k.merge c.self.inside.merge c.in_ok-merge.merge is.merges is.most_lines
    is.events_are
    (ap (λ (v : Kept). v.merge) c.self.view_is) c.in_ok-merge.ensures.carry c.in_ok-merge.ensures.form in
    written
    ∙ ap spell (same-carry (record { lines = c.in_ok-lines.lines; merge = c.in_ok-merge.merge; latest = c.self.inside.latest })
    (carry_of settings stream)
    l.0 m.0 (ap (λ (v : Kept). v.latest) c.self.view_is ∙ is.latest_is)))

pub returns-clause-is_carry : goal.returns-clause-is_carry
returns-clause-is_carry c = if-ok c.write.result c.write.ensures (λ bytes written settings meta stream is moments.
    let k = c.args.self.now in
    let l = carried-lines (breaks_by settings.breaker) (effective settings.truncate) stream k.lines c.deref.result.now c.in_ok-lines.lines
    is.breaks_are is.lines_are (c.deref.ensures ∙ ap (λ (v : Kept). v.lines) c.self.view_is) c.in_ok-lines.ensures.carry c.in_ok-lines.ensures.pending in
    let m = carried-events settings (marked_of settings stream) k.merge c.self.inside.merge c.in_ok-merge.merge is.merges is.most_lines
    is.events_are
    (ap (λ (v : Kept). v.merge) c.self.view_is) c.in_ok-merge.ensures.carry c.in_ok-merge.ensures.form in
    let usable : AreUsable settings = subst AreUsable (ap (λ (v : Kept). v.settings) c.self.view_is ∙ is.settings_are) c.self.invariant.1 in
    record {
      form = carry-form settings stream usable moments (c.events_stay.ensures.lines settings.merge.max_lines) l.1 m.1;
      spelled = written
          ∙ ap spell (same-carry (record { lines = c.in_ok-lines.lines; merge = c.in_ok-merge.merge; latest = c.self.inside.latest })
          (carry_of settings stream)
          l.0 m.0 (ap (λ (v : Kept). v.latest) c.self.view_is ∙ is.latest_is));
    })
