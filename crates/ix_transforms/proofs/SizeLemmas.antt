-- What no change and no transform alters: sizes and moments.
use Rattle.std.proofs.Common.{◌≡◌, ℕ, ◌≤◌, true, false, if◌then◌else◌, List, [], ◌∷◌, ◌++◌, length, take, drop, fold, codes, nat_eq, Some}
use Rattle.std.proofs.Common.{None, refl, arith}
use Rattle.std.specs.Option.{option_map}
use Rattle.std.specs.List.{starts_with}
use Rattle.std.proofs.lemmas.List.{length-take, length-drop}
use Rattle.ix_base.specs.declared.events.Event.{Event}
use Rattle.ix_conf_values.specs.declared.seds.Sed.{Sed}
use Rattle.ix_conf_values.specs.declared.transforms.Key.{Key}
use Rattle.ix_conf_values.specs.declared.transforms.Key.TheVariants.{Raw, Meta, Queue as QueueKey, Index, Host, Source, Sourcetype}
use Rattle.ix_conf_values.specs.declared.transforms.Transform.{Transform}
use Rattle.ix_transforms.specs.Seds.{raw_limit, cut, sed_text}
use Rattle.ix_transforms.specs.Queues.{limit_of, behind_or, with_value}
use Rattle.ix_transforms.specs.Transforms.{destination, front, given, with_after, transformed, transformed_by}
use Rattle.ix_transforms.specs.Changes.{start, outcome_in, changed}
use Rattle.ix_transforms.specs.Sizes.{KeepsSizes, HasSizes, HasMoments}
use Rattle.ix_transforms.specs.declared.queues.Queue.{Queue}
use Rattle.ix_transforms.specs.declared.queues.Queue.TheVariants.{IndexQueue, NullQueue}
use Rattle.ix_transforms.specs.declared.queues.Queued.{Queued}

-- what holds of an event on its way
record Holds (before : Event) (q : Queued) : Type 0 where
  raw : length q.event.raw ≤ raw_limit
  sizes : KeepsSizes before → KeepsSizes q.event
  time : q.event.time ≡ before.time
  arrival : q.event.arrival ≡ before.arrival

short : (n : ℕ) (xs : List ℕ) → length (take n xs) ≤ n
short n xs = omega (arith, length-take n xs)

behind_or-short : (n : ℕ) (field prefix text : List ℕ) → length field ≤ n → length text ≤ n → length (behind_or field prefix text) ≤ n
behind_or-short n field prefix text a b =
    elim (starts_with nat_eq text prefix) as (λ x. length (if x then drop (length prefix) text else field) ≤ n) [
      | true ↦ omega (arith, length-drop (length prefix) text)
      | false ↦ a
    ]

with_value-holds : (before : Event) (key : Key) (text : List ℕ) (q : Queued) → length text ≤ limit_of key → Holds before q →
    Holds before (with_value key text q)
with_value-holds before Raw text q h s = record {
  raw = h;
  sizes = λ k. let o = s.sizes k in
      record { index = o.index; host = o.host; source = o.source; sourcetype = o.sourcetype; meta = o.meta };
  time = s.time;
  arrival =
      s.arrival;
}
with_value-holds before Meta text q h s = record {
  raw = s.raw;
  sizes = λ k. let o = s.sizes k in
      record { index = o.index; host = o.host; source = o.source; sourcetype = o.sourcetype; meta = h };
  time = s.time;
  arrival = s.arrival;
}
with_value-holds before QueueKey text q h s = record { raw = s.raw; sizes = s.sizes; time = s.time; arrival = s.arrival }
with_value-holds before Index text q h s = record {
  raw = s.raw;
  sizes = λ k. let o = s.sizes k in
      record { index = h; host = o.host; source = o.source; sourcetype = o.sourcetype; meta = o.meta };
  time = s.time;
  arrival = s.arrival;
}
with_value-holds before Host text q h s = record {
  raw = s.raw;
  sizes = λ k. let o = s.sizes k in
      record {
        index = o.index;
        host = behind_or-short 4096 q.event.host (codes "host::") text o.host h;
        source = o.source;
        sourcetype = o.sourcetype;
        meta = o.meta;
      };
  time = s.time;
  arrival = s.arrival;
}
with_value-holds before Source text q h s = record {
  raw = s.raw;
  sizes = λ k. let o = s.sizes k in
      record {
        index = o.index;
        host = o.host;
        source = behind_or-short 4096 q.event.source (codes "source::") text o.source h;
        sourcetype = o.sourcetype;
        meta = o.meta;
      };
  time = s.time;
  arrival = s.arrival;
}
with_value-holds before Sourcetype text q h s = record {
  raw = s.raw;
  sizes = λ k. let o = s.sizes k in
      record {
        index = o.index;
        host = o.host;
        source = o.source;
        sourcetype = behind_or-short 4096 q.event.sourcetype (codes "sourcetype::") text o.sourcetype h;
        meta = o.meta;
      };
  time = s.time;
  arrival = s.arrival;
}

transformed-holds : (before : Event) (q : Queued) (t : Transform) → Holds before q → Holds before (transformed q t)
transformed-holds before q t s =
    let n : ℕ = limit_of (destination t) in
    let kept : List ℕ = front t.write_meta q.event.meta in
    elim (given t q) as (λ x. Holds before (with_after (destination t) (option_map (λ text. take n (kept ++ text)) x) q)) [
      | None ↦ s
      | Some text ↦ with_value-holds before (destination t) (take n (kept ++ text)) q (short n (kept ++ text)) s
    ]

transformed_by-holds : (before : Event) (transforms : List Transform) (q : Queued) → Holds before q →
    Holds before (transformed_by transforms q)
transformed_by-holds before [] q s = s
transformed_by-holds before (t ∷ transforms) q s = transformed_by-holds before transforms (transformed q t) (transformed-holds before q t s)

seds-short : (seds : List Sed) (now : List ℕ) → length now ≤ raw_limit →
    length (fold (λ now sed. cut (sed_text sed now)) now seds) ≤ raw_limit
seds-short [] now h = h
seds-short (sed ∷ seds) now h = seds-short seds (cut (sed_text sed now)) (short raw_limit (sed_text sed now))

start-holds : (seds : List Sed) (event : Event) → Holds event (start seds event)
start-holds seds event = record {
  raw = seds-short seds (cut event.raw) (short raw_limit event.raw);
  sizes = λ k. record { index = k.index; host = k.host; source = k.source; sourcetype = k.sourcetype; meta = k.meta };
  time = refl;
  arrival = refl;
}

outcome-sizes : (before event : Event) (queue : Queue) → length event.raw ≤ raw_limit → (KeepsSizes before → KeepsSizes event) →
    HasSizes before (outcome_in event queue)
outcome-sizes before event IndexQueue raw sizes = (raw, sizes)
outcome-sizes before event NullQueue raw sizes = tt

outcome-moments : (before event : Event) (queue : Queue) → event.time ≡ before.time → event.arrival ≡ before.arrival →
    HasMoments before (outcome_in event queue)
outcome-moments before event IndexQueue time arrival = (time, arrival)
outcome-moments before event NullQueue time arrival = tt

pub changed-sizes : (seds : List Sed) (transforms : List Transform) (event : Event) → HasSizes event (changed seds transforms event)
changed-sizes seds transforms event =
    let q = transformed_by transforms (start seds event) in
    let s = transformed_by-holds event transforms (start seds event) (start-holds seds event) in
    outcome-sizes event q.event q.queue s.raw s.sizes

pub changed-moments : (seds : List Sed) (transforms : List Transform) (event : Event) → HasMoments event (changed seds transforms event)
changed-moments seds transforms event =
    let q = transformed_by transforms (start seds event) in
    let s = transformed_by-holds event transforms (start seds event) (start-holds seds event) in
    outcome-moments event q.event q.queue s.time s.arrival
