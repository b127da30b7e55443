use Rattle.std.proofs.Common.{sym, ◌∙◌}
use Rattle.std.proofs.lemmas.List.Sorted.{searched}
use Rattle.ix_replay.proofs.Unnamed.{not_found}
use Rattle.ix_replay.proofs.removed.may_have.Goals as goal

pub returns : goal.returns
returns c = λ no has.
    not_found c.args.numbers.now c.args.number c.binary_search.result
    (searched c.args.numbers.now c.args.number c.binary_search.result c.binary_search.ensures.position
    (λ i j up within. c.requires i j 0 up within))
    (sym c.is_ok.ensures.value ∙ no) has
