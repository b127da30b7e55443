use Rattle.std.proofs.Common.{◌++◌, ◌∙◌, sym, ap, option_to_list}
use Rattle.ix_merge.specs.Events.{settled}
use Rattle.ix_merge.specs.Stands.{Merging}
use Rattle.ix_merge.proofs.Adding.{closes}
use Rattle.ix_merge.proofs.merging.Merge.close.Goals as goal

pub returns-clause-ends : goal.returns-clause-ends
returns-clause-ends c = λ lines holds.
    let self = c.args.self in
    closes self.on self.max_lines lines self.parts holds.parts
    ∙ ap (λ (v : Merging). settled self.on self.max_lines lines ++ option_to_list v.parts.event) (sym c.self.view_is)
