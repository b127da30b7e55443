use Rattle.std.proofs.Common.{◌∙◌, sym, subst, ◌++◌}
use Rattle.ix_props.specs.declared.settings.Settings.{Settings}
use Rattle.ix_parse.specs.Limits.{KeepsLimits}
use Rattle.ix_parse.specs.Marks.{marked}
use Rattle.ix_parse.proofs.StandLemmas.{marked_of, end-as-stated, comes-to-end}
use Rattle.ix_parse.proofs.channel.Channel.ended.Goals as goal

pub taken-requires : goal.taken-requires
taken-requires c = c.in_ok-last.ensures.short

pub take_end-requires-clause-seds : goal.take_end-requires-clause-seds
take_end-requires-clause-seds c = c.owner.ensures.usable.seds

pub take_end-requires-clause-whole : goal.take_end-requires-clause-whole
take_end-requires-clause-whole c = c.in_ok-merge.ensures.whole

pub returns-clause-settles : goal.returns-clause-settles
returns-clause-settles c = λ settings meta stream is.
    let lines = c.in_ok-last.last in
    let marks = marked_of settings stream ++ marked settings.merge settings.time lines in
    let taken = c.in_ok-merge.ensures.takes settings meta stream is in
    let end = end-as-stated settings c.owner.result.settings.now meta c.owner.result.meta.now marks c.in_ok-merge.merge
    c.in_ok-merge.outcomes c.take_end.new.outcomes
    (c.owner.ensures.settings ∙ is.settings_are) (c.owner.ensures.meta ∙ is.meta_is) (c.in_ok-take_end.ensures.takes marks taken.holds) in
    comes-to-end settings meta stream lines c.in_ok-merge.merge c.in_ok-merge.outcomes c.take_end.new.outcomes
    (c.in_ok-last.ensures.lines settings meta stream is) taken end

pub returns-clause-small : goal.returns-clause-small
returns-clause-small c = λ settings meta stream is limits.
    let k = c.args.self.now in
    let owner = c.owner.result in
    let now : KeepsLimits k.settings k.meta =
    subst (λ (s : Settings). KeepsLimits s k.meta) (sym is.settings_are) (subst (KeepsLimits settings) (sym is.meta_is) limits) in
    let kept : KeepsLimits owner.settings.now owner.meta.now =
    subst (λ (s : Settings). KeepsLimits s owner.meta.now) (sym c.owner.ensures.settings)
    (subst (KeepsLimits k.settings) (sym c.owner.ensures.meta) now) in
    c.in_ok-take_end.ensures.small kept (c.in_ok-merge.ensures.small now)
