-- The event behind lent fields.
use Rattle.ix_base.specs.declared.events.Event.{Event}
use Rattle.ix_base.specs.declared.events.EventRef.{EventRef}

abbrev pub lent_event : EventRef → Event
lent_event e = record {
  time = e.time;
  arrival = e.arrival;
  index = e.index.now;
  host = e.host.now;
  source = e.source.now;
  sourcetype = e.sourcetype.now;
  meta = e.meta.now;
  raw = e.raw.now;
}
