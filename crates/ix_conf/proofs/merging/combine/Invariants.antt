use Rattle.std.proofs.Common.{◌+◌, length}
use Rattle.std.specs.Option.{option_or}
use Rattle.ix_conf.specs.Value.{entry_at}
use Rattle.ix_conf.proofs.MergeLemmas.{Merging}
use Rattle.ix_conf.proofs.merging.combine.Given as goal

abbrev pub invariant-loop-entry : goal.invariant-loop-entry
invariant-loop-entry l =
    Merging l.all.items l.high.items l.low.items
    (λ stanza key. option_or (entry_at stanza key l.fn.high.items) (entry_at stanza key l.fn.low.items))

abbrev pub decreases-loop-entry : goal.decreases-loop-entry
decreases-loop-entry l = length l.high.items + length l.low.items
