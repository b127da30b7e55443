use Rattle.std.proofs.Common.{◌≡◌, take}
use Rattle.ix_conf.specs.Listing.{listing}
use Rattle.ix_conf.proofs.merged.list_entries.Given as goal

abbrev pub invariant-loop-entry : goal.invariant-loop-entry
invariant-loop-entry l = l.text ≡ listing (take l.entry-index l.entries)
