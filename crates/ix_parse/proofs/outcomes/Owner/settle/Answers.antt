use Rattle.std.proofs.Common.{◌≡◌, List, [], ◌∷◌, ◌++◌, sym, subst, rules}
use Rattle.std.specs.Prelude.{Result, Ok, Err, OnOk}
use Rattle.std.specs.List.{All}
use Rattle.std.proofs.lemmas.List.Elements.{All-push}
use Rattle.ix_base.specs.declared.events.Routed.{Routed}
use Rattle.ix_parse.specs.Limits.{IsSmall}
use Rattle.ix_parse.proofs.SizeLemmas.{small-outcome}
use Rattle.ix_parse.proofs.outcomes.Owner.settle.Goals as goal

-- one more outcome that is small
pushed : {T E K : Type 0} (result : Result T E) (old new : List Routed) (routed : Routed) → OnOk result (new ≡ old ++ routed ∷ []) →
    (K → IsSmall routed) →
    OnOk result (K → All IsSmall old → All IsSmall new)
pushed (Ok t) old new routed e h = λ k all. subst (All IsSmall) (sym e) (All-push IsSmall old routed all (h k))
pushed (Err t) old new routed e h = tt

pub returns-clause-small : goal.returns-clause-small
returns-clause-small c =
    pushed c.push.result c.args.outcomes.now.routed c.push.new.self c.in_ok-routed.routed c.push.ensures.ok
    (small-outcome c.args.self.now.settings.now c.args.self.now.meta.now _ c.args.event c.in_ok-event.event c.in_ok-routed.routed
    c.in_ok-event.ensures c.in_ok-routed.ensures.sizes)

pub returns-clause-added : goal.returns-clause-added
returns-clause-added c = search rules
