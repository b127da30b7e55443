use Rattle.std.proofs.Common.{ap, sym, subst}
use Rattle.ix_props.specs.Settings.{AreUsable}
use Rattle.ix_parse.specs.declared.channel.Origin.{Origin}
use Rattle.ix_parse.proofs.StandLemmas.{same-kept}
use Rattle.ix_parse.proofs.channel.channel_of.Goals as goal

pub invariant_of-result : goal.invariant_of-result
invariant_of-result c = (c.requires.whole, subst (λ (x : Origin). AreUsable x.settings) (sym c.in_ok-origin.ensures.ok) c.requires.usable)

pub returns : goal.returns
returns c =
    let o = c.in_ok-origin.origin.value in
    let given = c.args.origin in
    same-kept o.settings given.settings o.meta given.meta c.in_ok-lines.lines.value c.args.lines c.args.merge c.args.latest
    (ap (λ (x : Origin). x.settings) c.in_ok-origin.ensures.ok) (ap (λ (x : Origin). x.meta) c.in_ok-origin.ensures.ok) c.in_ok-lines.ensures.ok
