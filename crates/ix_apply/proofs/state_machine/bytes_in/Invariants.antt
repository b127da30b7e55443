use Rattle.std.proofs.Common.{◌≡◌, take}
use Rattle.std.specs.List.{sum_by}
use Rattle.ix_store.specs.Counting.{text_length}
use Rattle.ix_apply.proofs.state_machine.bytes_in.Given as goal

abbrev pub invariant-loop-event : goal.invariant-loop-event
invariant-loop-event l = l.total ≡ sum_by text_length (take l.event-index l.events)
