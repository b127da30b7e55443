-- An event on its way through the transforms: the values of its keys, with the queue that it goes
-- to.
use Rattle.std.specs.Prelude.{ℕ, if◌then◌else◌, List, ◌++◌, length, drop, codes, bytes_eq, nat_eq}
use Rattle.std.specs.List.{starts_with}
use Rattle.ix_base.specs.declared.events.Event.{Event}
use Rattle.ix_conf_values.specs.declared.transforms.Key.{Key}
use Rattle.ix_conf_values.specs.declared.transforms.Key.TheVariants.{Raw, Meta, Queue as QueueKey, Index, Host, Source, Sourcetype}
use Rattle.ix_transforms.specs.Seds.{raw_limit}
use Rattle.ix_transforms.specs.declared.queues.Queue.{Queue}
use Rattle.ix_transforms.specs.declared.queues.Queue.TheVariants.{IndexQueue, NullQueue}
use Rattle.ix_transforms.specs.declared.queues.Queued.{Queued}

abbrev pub name_of : Queue → List ℕ
name_of IndexQueue = codes "indexQueue"
name_of NullQueue = codes "nullQueue"

-- the queue of this name; any other text leaves the queue as it was
abbrev pub queue_or : Queue → List ℕ → Queue
queue_or queue text =
    if bytes_eq text (codes "indexQueue") then IndexQueue
    else if bytes_eq text (codes "nullQueue") then NullQueue
    else queue

-- the value of a key, for three of them behind a prefix
abbrev pub value_of : Key → Queued → List ℕ
value_of Raw q = q.event.raw
value_of Meta q = q.event.meta
value_of QueueKey q = name_of q.queue
value_of Index q = q.event.index
value_of Host q = codes "host::" ++ q.event.host
value_of Source q = codes "source::" ++ q.event.source
value_of Sourcetype q = codes "sourcetype::" ++ q.event.sourcetype

-- how many bytes a value of the key has at the most
abbrev pub limit_of : Key → ℕ
limit_of Raw = raw_limit
limit_of Meta = 65535
limit_of QueueKey = 4096
limit_of Index = 4096
limit_of Host = 4096
limit_of Source = 4096
limit_of Sourcetype = 4096

-- what stands behind the prefix; a text that does not begin with it leaves the field as it was
abbrev pub behind_or : List ℕ → List ℕ → List ℕ → List ℕ
behind_or field prefix text = if starts_with nat_eq text prefix then drop (length prefix) text else field

abbrev pub with_event : Queued → Event → Queued
with_event q event = record q { event = event }

-- the event with this value of the key
abbrev pub with_value : Key → List ℕ → Queued → Queued
with_value Raw text q = with_event q (record q.event { raw = text })
with_value Meta text q = with_event q (record q.event { meta = text })
with_value QueueKey text q = record q { queue = queue_or q.queue text }
with_value Index text q = with_event q (record q.event { index = text })
with_value Host text q = with_event q (record q.event { host = behind_or q.event.host (codes "host::") text })
with_value Source text q = with_event q (record q.event { source = behind_or q.event.source (codes "source::") text })
with_value Sourcetype text q = with_event q (record q.event { sourcetype = behind_or q.event.sourcetype (codes "sourcetype::") text })
