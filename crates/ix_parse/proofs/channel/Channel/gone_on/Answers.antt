use Rattle.std.proofs.Common.{◌∙◌, ap}
use Rattle.ix_parse.specs.Standing.{Kept}
use Rattle.ix_parse.specs.declared.channel.Origin.{Origin}
use Rattle.ix_parse.proofs.StandLemmas.{same-kept}
use Rattle.ix_parse.proofs.channel.Channel.gone_on.Goals as goal

pub returns-clause-kept : goal.returns-clause-kept
returns-clause-kept c =
    let k = c.args.self.now in
    let o = c.in_ok-origin.origin.value in
    same-kept o.settings k.settings o.meta k.meta c.in_ok-lines.lines.value c.args.lines c.args.merge c.args.outcomes.latest
    (ap (λ (x : Origin). x.settings) c.in_ok-origin.ensures.cases ∙ ap (λ (v : Kept). v.settings) c.self.view_is)
    (ap (λ (x : Origin). x.meta) c.in_ok-origin.ensures.cases ∙ ap (λ (v : Kept). v.meta) c.self.view_is)
    c.in_ok-lines.ensures.ok
