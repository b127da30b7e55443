-- What the files of a store begin with, by its state.
use Rattle.std.specs.Prelude.{ℕ, Bool, true, false, if◌then◌else◌, nat_le, List, [], ◌∷◌, ◌++◌, Option, Some, None}
use Rattle.std.specs.List.{flat_map}
use Rattle.ix_base.specs.declared.events.Event.{Event}
use Rattle.ix_base.specs.declared.files.Area.{Area}
use Rattle.ix_base.specs.declared.files.Area.TheVariants.{Meta, Home, Cold, Frozen, Thawed}
use Rattle.ix_base.specs.declared.files.File.{File}
use Rattle.ix_bucket.specs.Record.{records}
use Rattle.ix_disk.specs.Files.{is_same}
use Rattle.ix_items.specs.declared.items.Bucket.{Bucket}
use Rattle.ix_commit.specs.Contents.{Contents}
use Rattle.ix_model.specs.Buckets.{Standing, live, frozen, Slot, Index}
use Rattle.ix_model.specs.State.{Catalog}

-- a file with the events whose records it begins with
pub record Filed : Type 0 where
  pub file : File
  pub events : List Event

abbrev pub archived : List Event → Option ℕ → List Filed
archived events None = []
archived events (Some number) = record { file = record { area = Frozen; number = number }; events = events } ∷ []

abbrev pub in_bucket : List Event → Option Bucket → List Filed
in_bucket events None = []
in_bucket events (Some b) = record { file = b.file; events = events } ∷ []

-- a live bucket has a file; a frozen one its archive, where it has one, and that of the thawed
-- bucket, where it is thawed
abbrev pub filed_by : List Event → Standing → List Filed
filed_by events (live b) = in_bucket events (Some b)
filed_by events (frozen e thawed) = archived events e.archive ++ in_bucket events thawed

abbrev pub filed_slot : Slot → List Filed
filed_slot s = filed_by s.events s.standing

abbrev pub filed_index : Index → List Filed
filed_index i = flat_map filed_slot i.slots

abbrev pub filed : Catalog → List Filed
filed s = flat_map filed_index s.indexes

-- the bytes of a file among these
abbrev pub bytes_of : List Filed → File → Option (List ℕ)
bytes_of [] file = None
bytes_of (f ∷ fs) file = if is_same file f.file then Some (records f.events) else bytes_of fs file

abbrev pub is_meta_area : Area → Bool
is_meta_area Meta = true
is_meta_area Home = false
is_meta_area Cold = false
is_meta_area Frozen = false
is_meta_area Thawed = false

-- Files from the next number on are still to come, and have no bytes. Those of logs, and those that
-- are done with, have no entry.
abbrev pub contents_of : Catalog → Contents
contents_of s file =
    if is_meta_area file.area then None
    else if nat_le s.next_file file.number then Some []
    else bytes_of (filed s) file
