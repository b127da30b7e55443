use Rattle.std.proofs.Common.{◌≡◌, [], sym, ap, ◌∙◌, subst, append-nil}
use Rattle.std.specs.Map.Iter.{deref_pair}
use Rattle.std.proofs.lemmas.Map.Iter.{rest_all}
use Rattle.ix_props.specs.Ranking.{lent, AreNearest}
use Rattle.ix_props.proofs.FindLemmas.{entries_of, listed}
use Rattle.ix_props.proofs.choosing.list_of.Goals as goal

pub returns : goal.returns
returns c = λ ranks entries near.
    let it = c.into_iter-candidate-iterator.ensures.into_iter_gives in
    let done : c.loop-candidate.candidate-iterator ≡ [] =
    rest_all deref_pair c.loop-candidate.candidate-iterator c.next.new.self c.next.result c.in-None.is c.next.ensures.steps in
    let all : lent c.loop-candidate.list.items ≡ entries_of c.args.map.now.entries =
    sym (append-nil (lent c.loop-candidate.list.items)) ∙ (rw done at c.loop-candidate.invariant) ∙ ap (λ ps. entries_of ps) it.0 in
    subst (λ xs. AreNearest ranks entries xs) (sym all) (listed ranks entries c.args.map.now it.5 near)
