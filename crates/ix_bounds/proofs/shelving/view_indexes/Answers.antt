use Rattle.std.proofs.Common.{◌∙◌}
use Rattle.ix_bounds.proofs.Shelved.{shelved_same}
use Rattle.ix_bounds.proofs.shelving.view_indexes.Goals as goal

pub returns : goal.returns
returns c = λ force all settings indexes.
    c.from_vec.ensures ∙ (c.in_ok-shelve_all.ensures ∙ shelved_same force c.args.set.now all c.args.indexes.items settings indexes)
