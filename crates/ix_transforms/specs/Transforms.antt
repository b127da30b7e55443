-- What a transform does to an event. From Splunk's Admin Manual, transforms.conf.
use Rattle.std.specs.Prelude.{ℕ, Bool, true, false, List, [], ◌∷◌, ◌++◌, take, fold, Option, Some, None}
use Rattle.std.specs.Option.{option_map}
use Rattle.ix_match.specs.declared.first.Found.{Found}
use Rattle.ix_conf_values.specs.declared.transforms.Key.{Key}
use Rattle.ix_conf_values.specs.declared.transforms.Key.TheVariants.{Meta}
use Rattle.ix_conf_values.specs.declared.transforms.Transform.{Transform}
use Rattle.ix_transforms.specs.Matches.{first}
use Rattle.ix_transforms.specs.Writing.{written}
use Rattle.ix_transforms.specs.Queues.{value_of, limit_of, with_value}
use Rattle.ix_transforms.specs.declared.queues.Queued.{Queued}

-- the key that is written: `_meta` where the value is added to the indexed fields, else that of
-- `DEST_KEY`
abbrev pub destination_of : Bool → Option Key → Key
destination_of true dest = Meta
destination_of false (Some key) = key
destination_of false None = Meta

abbrev pub destination : Transform → Key
destination t = destination_of t.write_meta t.dest

-- what is searched: the source, as far as the transform looks
abbrev pub searched : Transform → Queued → List ℕ
searched t q = take t.lookahead (value_of t.source q)

-- the format at a match, in which group 0 is the destination's value so far; the default value, if
-- there is one, without a match
abbrev pub given_by : Transform → List ℕ → List ℕ → Option Found → Option (List ℕ)
given_by t so_far text (Some f) = Some (written t.format so_far text f.groups)
given_by t so_far text None = t.default_value

abbrev pub given : Transform → Queued → Option (List ℕ)
given t q = given_by t (value_of (destination t) q) (searched t q) (first t.regex (searched t q) 0)

-- what stays in front of a value: the indexed fields so far, with a space behind them, where it is
-- added to them
abbrev pub front : Bool → List ℕ → List ℕ
front false fields = []
front true [] = []
front true (b ∷ bs) = (b ∷ bs) ++ 32 ∷ []

-- the value that the destination then has, cut to what its key takes; none where nothing is given
abbrev pub value_after : Transform → Queued → Option (List ℕ)
value_after t q = option_map (λ text. take (limit_of (destination t)) (front t.write_meta q.event.meta ++ text)) (given t q)

abbrev pub with_after : Key → Option (List ℕ) → Queued → Queued
with_after key None q = q
with_after key (Some value) q = with_value key value q

abbrev pub transformed : Queued → Transform → Queued
transformed q t = with_after (destination t) (value_after t q) q

-- each transform sees what the ones before it left
abbrev pub transformed_by : List Transform → Queued → Queued
transformed_by transforms q = fold transformed q transforms
