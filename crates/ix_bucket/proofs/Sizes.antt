-- How long a record is, and what stands behind what.
use Rattle.std.proofs.Common.{◌≡◌, ℕ, ℤ, ◌+◌, List, ◌++◌, length, refl, arith, append_assoc, length-append}
use Rattle.ix_base.specs.declared.events.Event.{Event}
use Rattle.ix_coding.specs.Spelling.{four, signed, string}
use Rattle.ix_bucket.specs.Record.{fields, event_bytes}

length_signed : (z : ℤ) → length (signed z) ≡ 8
unfolding signed
length_signed z = refl

length_string : (text : List ℕ) → length (string text) ≡ 4 + length text
unfolding string four
length_string text = omega arith

pub length_fields : (event : Event) → length (fields event) ≡ 40 + (length event.index + length event.host + length event.source + length
    event.sourcetype) + length event.meta + length event.raw
unfolding fields
length_fields event = simp (length-append, length_signed, length_string) (omega arith)

pub length_event_bytes : (event : Event) → length (event_bytes event) ≡ 4 + length (fields event)
unfolding event_bytes
length_event_bytes event = length_string (fields event)

-- the length, the first fields and the last ones are the record
pub joined : (event : Event) (old first second third : List ℕ) → first ≡ old ++ four (length (fields event))
    → second ≡ first ++ (signed event.time ++ signed event.arrival ++ string event.index ++ string event.host)
    → third ≡ second ++ (string event.source ++ string event.sourcetype ++ string event.meta ++ string event.raw) → third ≡ old
    ++ event_bytes event
unfolding event_bytes string fields
joined event old first second third p q r = rw (r, q, p) (simp append_assoc)
