-- What an event comes to at index time: the changes by SEDCMD, then the transforms, then the queue.
use Rattle.std.specs.Prelude.{List}
use Rattle.ix_base.specs.declared.events.Event.{Event}
use Rattle.ix_base.specs.declared.events.Routed.{Routed}
use Rattle.ix_base.specs.declared.events.Routed.TheVariants.{To, Null}
use Rattle.ix_conf_values.specs.declared.seds.Sed.{Sed}
use Rattle.ix_conf_values.specs.declared.transforms.Transform.{Transform}
use Rattle.ix_transforms.specs.Seds.{changed_text}
use Rattle.ix_transforms.specs.Transforms.{transformed_by}
use Rattle.ix_transforms.specs.declared.queues.Queue.{Queue}
use Rattle.ix_transforms.specs.declared.queues.Queue.TheVariants.{IndexQueue, NullQueue}
use Rattle.ix_transforms.specs.declared.queues.Queued.{Queued}

abbrev pub outcome_in : Event → Queue → Routed
outcome_in event IndexQueue = To event
outcome_in event NullQueue = Null

abbrev pub outcome : Queued → Routed
outcome q = outcome_in q.event q.queue

-- the event with its raw text changed; every event goes to be indexed at first
abbrev pub start : List Sed → Event → Queued
start seds event = record { event = record event { raw = changed_text seds event.raw }; queue = IndexQueue }

abbrev pub changed : List Sed → List Transform → Event → Routed
changed seds transforms event = outcome (transformed_by transforms (start seds event))
