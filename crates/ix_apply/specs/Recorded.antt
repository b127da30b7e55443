-- Each event of a history that is in memory has a record in a bucket's file.
use Rattle.ix_merge.proofs.Laws.{groups-keep}
use Rattle.ix_parse.proofs.TimeLemmas.{all-small, all-arrivals}
use Rattle.ix_recovery.proofs.Stored.{have_records}
use Rattle.ix_recovery.specs.Ranges.{EventsHaveRecords}

pub events_have_records : EventsHaveRecords
events_have_records = have_records all-small (λ s meta stream closed moments.
    all-arrivals s meta stream closed (groups-keep s.merge.max_lines) moments)
