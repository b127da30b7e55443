-- The value that a transform gives, by the text that it searches.
use Rattle.std.proofs.Common.{◌≡◌, List, ℕ, ◌++◌, take, subst}
use Rattle.std.specs.Prelude.{Option, Result, IfOk}
use Rattle.std.specs.Option.{option_map}
use Rattle.ix_conf_values.specs.declared.transforms.Transform.{Transform}
use Rattle.ix_transforms.specs.Matches.{first}
use Rattle.ix_transforms.specs.Queues.{limit_of, value_of}
use Rattle.ix_transforms.specs.Transforms.{destination, front, given_by, value_after}
use Rattle.ix_transforms.specs.declared.queues.Queued.{Queued}

pub after_given : {E : Type 0} (result : Result (Option (List ℕ)) E) (t : Transform) (q : Queued) (text : List ℕ) →
    IfOk result (λ value. value ≡ option_map (λ given. take (limit_of (destination t)) (front t.write_meta q.event.meta ++ given))
    (given_by t (value_of (destination t) q) text (first t.regex text 0))) →
    text ≡ take t.lookahead (value_of t.source q) → IfOk result (λ value. value ≡ value_after t q)
after_given result t q text given is =
    subst (λ text. IfOk result (λ value. value ≡ option_map
    (λ given. take (limit_of (destination t)) (front t.write_meta q.event.meta ++ given))
    (given_by t (value_of (destination t) q) text (first t.regex text 0)))) is given
