-- How long the log is behind a run.
use Rattle.std.specs.Prelude.{◌≡◌, ◌⊎◌, Bool, true, false, Some, Result, Ok, Err}
use Rattle.ix_disk.specs.Image.{Image}
use Rattle.ix_disk.specs.declared.disk.Disk.{Ghosts}
use Rattle.ix_manifest.specs.Book.{NamedItems}
use Rattle.ix_commit.specs.Reads.{HasNoRun}
use Rattle.ix_run.specs.Resting.{ReadsShort}
use Rattle.indexd_run.specs.declared.stop.Stop.{Stop}
use Rattle.indexd_run.specs.declared.stop.Stop.TheVariants as stops

-- whether a run that stops so has made its log short: not where there was no room in memory, or the
-- disk has failed or is not sound
abbrev pub is_short_at : Stop → Bool
is_short_at stops.Memory = false
is_short_at stops.Disk = false
is_short_at (stops.Damaged file at) = false
is_short_at stops.Inconsistent = false
is_short_at stops.NotFound = true
is_short_at stops.TooManyChannels = true
is_short_at stops.Full = true
is_short_at stops.Output = true
is_short_at stops.Input = true
is_short_at stops.Endless = true

abbrev pub is_short : {T : Type 0} → Result T Stop → Bool
is_short (Ok done) = true
is_short (Err stop) = is_short_at stop

-- As the disk reads, nothing could be mounted: no further run has a number, or a new store has no
-- room for its first body.
abbrev pub HasHadItsRuns : {D : Type 0} → Ghosts D → (NamedItems → Type 0) → D → Type 0
HasHadItsRuns d fits disk = (image : Image) → d.seen disk ≡ Some image → HasNoRun fits image

-- As the disk reads, a further run is left.
abbrev pub HasRunsLeft : {D : Type 0} → Ghosts D → (NamedItems → Type 0) → D → Type 0
HasRunsLeft d fits disk = (image : Image) → d.seen disk ≡ Some image → HasNoRun fits image → ⊥

-- Behind a run that stops, the current log is not long, as the disk reads; but where nothing was
-- mounted.
abbrev pub StopsShort : {D : Type 0} → Ghosts D → (NamedItems → Type 0) → Stop → D → D → Type 0
StopsShort d fits stop before disk = is_short_at stop ≡ true → ReadsShort d disk ⊎ ((stop ≡ stops.Full) × HasHadItsRuns d fits before)

-- Behind a run it is not long.
abbrev pub EndsShort : {D : Type 0} → Ghosts D → (NamedItems → Type 0) → Result Unit Stop → D → D → Type 0
EndsShort d fits (Ok done) before disk = ReadsShort d disk
EndsShort d fits (Err stop) before disk = StopsShort d fits stop before disk

-- no room in memory, or a fault of the disk: a checkpoint stops for nothing else
abbrev pub IsOfCheckpoint : Stop → Type 0
IsOfCheckpoint stop = (stop ≡ stops.Memory) ⊎ (stop ≡ stops.Disk)
