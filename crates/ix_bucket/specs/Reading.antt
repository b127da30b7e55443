-- Reading a record from left to right. Nothing is read where a field passes the end.
use Rattle.std.specs.Prelude.{ℕ, List, length, Option, Some, None, ◌==◌, if◌then◌else◌}
use Rattle.ix_base.specs.declared.events.Event.{Event}
use Rattle.ix_coding.specs.Reading.{◌>>=◌, signed_at, string_at}

unfoldable pub fields_at : List ℕ → Option (Event × List ℕ)
fields_at bytes = do
  time ← signed_at bytes
  arrival ← signed_at time.1
  index ← string_at arrival.1
  host ← string_at index.1
  source ← string_at host.1
  sourcetype ← string_at source.1
  meta ← string_at sourcetype.1
  raw ← string_at meta.1
  Some (
    record {
      time = time.0;
      arrival = arrival.0;
      index = index.0;
      host = host.0;
      source = source.0;
      sourcetype = sourcetype.0;
      meta = meta.0;
      raw = raw.0;
    },
    raw.1,
  )

-- a record has its fields and nothing behind them
unfoldable pub record_at : List ℕ → Option (Event × List ℕ)
record_at bytes = do
  body ← string_at bytes
  event ← fields_at body.0
  if length event.1 == 0 then Some (event.0, body.1) else None
