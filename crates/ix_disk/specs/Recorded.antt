-- What one call leaves in the record of a disk in memory.
use Rattle.std.specs.Prelude.{◌≡◌, ◌⊎◌, [], ◌∷◌, ◌++◌, true, false, Result, Ok, Err}
use Rattle.ix_base.specs.Faults.{Rose}
use Rattle.ix_base.specs.Plans.{is_due}
use Rattle.ix_disk.specs.declared.past.Call.{Call}
use Rattle.ix_disk.specs.declared.past.Past.{Past}

-- A call that succeeds was not due to fail, and stands in the record as done. One that fails was
-- due or has another cause, and stands there as begun; or it found no room, which is counted, and
-- does not stand there.
abbrev pub Recorded : {T E : Type 0} → Past → Past → Call → Call → Type 0 → Result T E → Type 0
Recorded old new done begun cause (Ok value) = (is_due old.plan ≡ false) × (new.calls.items ≡ old.calls.items ++ done ∷ [])
Recorded old new done begun cause (Err fault) =
    (((is_due old.plan ≡ true) ⊎ cause) × (new.calls.items ≡ old.calls.items ++ begun ∷ []))
    ⊎ (Rose old.shortages new.shortages × (new.calls.items ≡ old.calls.items))
