use Rattle.std.proofs.Common.{rules}
use Rattle.std.proofs.lemmas.Int.{to_z-of_z}
use mir.Val.{SFits}
use Rattle.std.specs.Int.{w64}
use Rattle.ix_base.specs.declared.events.Event.{Event}
use Rattle.ix_bucket.proofs.Records.{fields_found}
use Rattle.ix_bucket.proofs.reading.fields_at.Goals as goal

pub returns-clause-found : goal.returns-clause-found
returns-clause-found c =
    let f1 : SFits w64 c.in_ok-time.time = search rules in
    let f2 : SFits w64 c.in_ok-arrival.arrival = search rules in
    let e : Event = record {
      time = c.in_ok-time.time;
      arrival = c.in_ok-arrival.arrival;
      index = c.in_ok-index.index.now;
      host = c.in_ok-host.host.now;
      source = c.in_ok-source.source.now;
      sourcetype = c.in_ok-sourcetype.sourcetype.now;
      meta = c.in_ok-meta.meta.now;
      raw = c.in_ok-raw.raw.now;
    } in
    simp to_z-of_z (fields_found e _ _ _ _ _ _ _ _ _ c.in_ok-time.ensures.found c.in_ok-arrival.ensures.found c.in_ok-index.ensures.found.0
    c.in_ok-host.ensures.found.0 c.in_ok-source.ensures.found.0 c.in_ok-sourcetype.ensures.found.0 c.in_ok-meta.ensures.found.0
    c.in_ok-raw.ensures.found.0)
