use Rattle.ix_merge.specs.declared.carry.MergeParts.{MergeParts}
use Rattle.ix_parse.proofs.Found.{merge_found}
use Rattle.ix_parse.proofs.reading.read_merge.Goals as goal

pub returns-clause-found : goal.returns-clause-found
returns-clause-found c =
    let parts : MergeParts = record { event = c.in_ok-event.event; held = c.in_ok-held.held; forced = c.in_ok-forced.forced } in
    merge_found parts _ _ _ _ c.in_ok-event.ensures.found c.in_ok-held.ensures.found c.in_ok-forced.ensures.found
