-- What a reader of bucket files holds.
use Rattle.std.specs.Prelude.{◌≡◌, ◌≤◌, ◌+◌, ◌-◌, ℕ, List, [], length, take, drop, Option, Some, None}
use Rattle.std.specs.Int.{w32}
use Rattle.ix_base.specs.Told.{IsFrontOf}
use Rattle.ix_base.specs.declared.events.Event.{Event}
use Rattle.ix_disk.specs.Image.{Image, bytes_in}
use Rattle.ix_disk.specs.declared.disk.Disk.{Ghosts}
use Rattle.ix_bucket.specs.declared.ahead.Reader.{Reader}
use Rattle.ix_bucket.specs.declared.ahead.ReadFault.{ReadFault}
use Rattle.ix_bucket.specs.declared.ahead.ReadFault.TheVariants.{Disk, BadRecord, NoMemory}
use Rattle.ix_bucket.specs.Record.{event_bytes, IsRecordOf}
use Rattle.ix_coding.specs.Reading.{number_at}

-- The bytes that the reader holds are those that a read of its file gives there now, where the disk
-- tells it.
pub record IsCurrent {D : Type 0} (g : Ghosts D) (reader : Reader) (disk : D) : Type 0 where
  pub held : (image : Image) → g.seen disk ≡ Some image → IsFrontOf reader.held.items (drop reader.start (bytes_in image reader.file))

-- the reader holds no bytes
pub record HoldsNothing (reader : Reader) : Type 0 where
  pub none : reader.held.items ≡ []

-- the bytes of a file from one place to another
abbrev pub between : ℕ → ℕ → List ℕ → List ℕ
between at until bytes = take (until - at) (drop at bytes)

-- no record begins at the place and ends by the other one
abbrev pub HasNoRecord : ℕ → ℕ → List ℕ → Type 0
HasNoRecord at until bytes = (event : Event) (next : ℕ) → next ≤ until → IsRecordOf (between at next bytes) event → ⊥

-- a record begins at the one place and ends at the other
pub record HasRecord (at next : ℕ) (bytes : List ℕ) : Type 0 where
  pub event : Event
  pub is_record : IsRecordOf (between at next bytes) event
  pub size : next ≡ at + length (event_bytes event)

-- how many bytes the record takes that begins so, by its length; four where the length is not whole
abbrev pub size_by : Option (ℕ × List ℕ) → ℕ
size_by None = 4
size_by (Some n) = 4 + n.0

abbrev pub needed : List ℕ → ℕ
needed bytes = size_by (number_at w32 bytes)

-- a front of the bytes that is as long as the record that they begin with
pub record Shows (view bytes : List ℕ) : Type 0 where
  pub front : IsFrontOf view bytes
  pub enough : needed view ≤ length view

-- the bytes that the reader holds from one place to another
abbrev pub view_of : Reader → ℕ → ℕ → List ℕ
view_of reader at until = take (until - at) (drop (at - reader.start) reader.held.items)

-- what is so of the place of a bad record
abbrev pub OnBadRecord : ReadFault → (ℕ → Type 0) → Type 0
OnBadRecord Disk P = Unit {0}
OnBadRecord (BadRecord at) P = P at
OnBadRecord NoMemory P = Unit {0}
