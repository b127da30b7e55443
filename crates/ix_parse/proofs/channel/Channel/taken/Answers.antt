use Rattle.std.proofs.Common.{◌∙◌, ap, sym, subst}
use Rattle.std.specs.Prelude.{IsFalse}
use Rattle.std.specs.List.{All}
use Rattle.std.proofs.lemmas.List.Elements.{All-nil}
use Rattle.std.proofs.lemmas.Result.{IfOk-from_err}
use Rattle.ix_merge.specs.Stands.{Merging}
use Rattle.ix_props.specs.declared.settings.Settings.{Settings}
use Rattle.ix_parse.specs.Limits.{KeepsLimits, IsSmall}
use Rattle.ix_parse.specs.Standing.{Kept}
use Rattle.ix_parse.proofs.StandLemmas.{marked_of, copied, as-stated, taken-in}
use Rattle.ix_parse.proofs.channel.Channel.taken.Goals as goal

pub take_lines-requires-clause-short : goal.take_lines-requires-clause-short
take_lines-requires-clause-short c = c.requires

pub take_lines-requires-clause-seds : goal.take_lines-requires-clause-seds
take_lines-requires-clause-seds c = c.owner.ensures.usable.seds

pub take_lines-requires-clause-whole : goal.take_lines-requires-clause-whole
take_lines-requires-clause-whole c = subst (λ (m : Merging). IsFalse m.broken) (sym c.in_ok-merge.ensures) c.self.invariant.0

pub returns-in_err-merge-clause-takes : goal.returns-in_err-merge-clause-takes
returns-in_err-merge-clause-takes c = IfOk-from_err c.from_residual.result _ c.from_residual.ensures.0

pub returns-in_err-take_lines-clause-takes : goal.returns-in_err-take_lines-clause-takes
returns-in_err-take_lines-clause-takes c = IfOk-from_err c.from_residual-in_err-take_lines.result _
    c.from_residual-in_err-take_lines.ensures.0

pub returns-clause-takes : goal.returns-clause-takes
returns-clause-takes c = λ settings meta stream is.
    let copy = c.in_ok-merge.merge in
    let none = c.outcomes-outcomes.result in
    let before = copied settings meta stream c.args.self.now copy none is (c.in_ok-merge.ensures
    ∙ ap (λ (v : Kept). v.merge) c.self.view_is)
    c.outcomes-outcomes.ensures.latest c.outcomes-outcomes.ensures.routed in
    let takes = as-stated settings c.owner.result.settings.now meta c.owner.result.meta.now (marked_of settings stream) c.args.lines copy
    c.take_lines.new.merge
    none c.take_lines.new.outcomes (c.owner.ensures.settings ∙ is.settings_are) (c.owner.ensures.meta ∙ is.meta_is)
    (c.in_ok-take_lines.ensures.takes (marked_of settings stream) before.events_are) in
    taken-in settings meta stream c.args.lines copy c.take_lines.new.merge none c.take_lines.new.outcomes before c.take_lines.ensures.on
    c.take_lines.ensures.max_lines takes

pub returns-clause-small : goal.returns-clause-small
returns-clause-small c = λ limits.
    let k = c.args.self.now in
    let owner = c.owner.result in
    let kept : KeepsLimits owner.settings.now owner.meta.now =
    subst (λ (s : Settings). KeepsLimits s owner.meta.now) (sym c.owner.ensures.settings)
    (subst (KeepsLimits k.settings) (sym c.owner.ensures.meta) limits) in
    c.in_ok-take_lines.ensures.small kept (subst (All IsSmall) (sym c.outcomes-outcomes.ensures.routed) (All-nil IsSmall))

pub returns-clause-whole : goal.returns-clause-whole
returns-clause-whole c = c.in_ok-take_lines.ensures.whole
