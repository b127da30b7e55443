use Rattle.std.proofs.Common.{codes, sym, ap, ◌∙◌, subst}
use Rattle.std.proofs.lemmas.Result.{IfOk-weaker}
use Rattle.ix_props.specs.Ranking.{found, lent}
use Rattle.ix_props.specs.Settings.{name_or, IsSourceType}
use Rattle.ix_props.proofs.SettledLemmas.{type_of_source}
use Rattle.ix_props.proofs.settling.sourcetype_of.Goals as goal

pub returns-in_ok-chosen-in-None : goal.returns-in_ok-chosen-in-None
returns-in_ok-chosen-in-None c =
    IfOk-weaker c.copy_name.result _ _
    (λ name is. subst (λ o. IsSourceType c.args.entries.now o c.args.meta.now.source name) (sym c.in-None.is)
    (type_of_source c.args.entries.now c.args.meta.now.source c.args.meta.now.host (found c.args.ranks.now)
    (lent c.in_ok-chosen-in-None.chosen.items) name
    c.requires c.in_ok-chosen-in-None.ensures
    (is ∙ ap (λ v. name_or (codes "unknown") v) (rw c.deref.ensures.value at c.find.ensures))))
    c.copy_name.ensures
