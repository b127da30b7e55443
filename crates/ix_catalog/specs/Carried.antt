-- A turn in one index, bucket by bucket: what it adds to what the indexes before it have come to.
use Rattle.std.specs.Prelude.{◌+◌, ◌<◌, ◌^◌, ◌&&◌, ℕ, Bool, true, false, List, [], ◌∷◌, ◌++◌, length}
use Rattle.std.specs.List.{flat_map}
use Rattle.ix_items.specs.declared.items.Bucket.{Bucket}
use Rattle.ix_items.specs.declared.items.Entry.{Entry}
use Rattle.ix_items.specs.declared.items.Rule.{Rule}
use Rattle.ix_commit.specs.declared.file_copy.CopyTarget.{CopyTarget}
use Rattle.ix_commit.specs.declared.file_copy.CopyTarget.TheVariants as places
use Rattle.ix_catalog.specs.Buckets.{Turn, is_among}
use Rattle.ix_catalog.specs.Shelves.{is_live}
use Rattle.ix_catalog.specs.Turning.{Numbered, freezes_by, file_behind, files_taken, copies, copies_by, copy_to, leaves_by, left_files}
use Rattle.ix_catalog.specs.Turning.{entry_by, numbered_id}
use Rattle.ix_catalog.specs.declared.housekeeping_result.HousekeepingResult.{HousekeepingResult}

-- it rolls to warm, where it neither freezes nor moves to cold
abbrev pub warms : Turn → Bucket → Bool
warms t b = is_live b && is_among t.moves.warmed b.id

-- every number that was taken since the start has a copy
abbrev pub IsCounted : HousekeepingResult → Type 0
IsCounted made = made.next_file < 2 ^ 63 + length made.copies

-- a bucket is copied into the next file, and its own is done with
abbrev pub copied_out : CopyTarget → Bucket → HousekeepingResult → HousekeepingResult
copied_out place b made = record {
  indexes = made.indexes;
  next_file = made.next_file + 1;
  entries = made.entries;
  copies = made.copies ++ copy_to place (b, made.next_file) ∷ [];
  files = made.files ++ b.file ∷ [];
}

-- a bucket that freezes
abbrev pub frozen_out : Bool → Bucket → HousekeepingResult → HousekeepingResult
frozen_out true b made = copied_out places.Frozen b made
frozen_out false b made = record {
  indexes = made.indexes;
  next_file = made.next_file;
  entries = made.entries;
  copies = made.copies;
  files = made.files ++ b.file ∷ [];
}

-- one bucket
abbrev pub carried : Turn → Bucket → HousekeepingResult → HousekeepingResult
carried t b made = record {
  indexes = made.indexes;
  next_file = file_behind t made.next_file b;
  entries = made.entries;
  copies = made.copies ++ copies_by t (b, made.next_file) (freezes_by t b);
  files = made.files ++ leaves_by t b (freezes_by t b);
}

-- all buckets of the index
abbrev pub all_carried : Turn → List Bucket → HousekeepingResult → HousekeepingResult
all_carried t bs made = record {
  indexes = made.indexes;
  next_file = made.next_file + files_taken t bs;
  entries = made.entries;
  copies = made.copies ++ copies t made.next_file bs;
  files = made.files ++ left_files t bs;
}

-- the entries of the buckets that freeze, in the order of these pairs
abbrev pub entries_of : Turn → List Numbered → List (ℕ × Rule) → List Entry
entries_of t xs frozen = flat_map (λ (x : ℕ × Rule). entry_by t x.1 (numbered_id x.0 xs)) frozen

abbrev pub with_entries : List Entry → HousekeepingResult → HousekeepingResult
with_entries more made = record {
  indexes = made.indexes;
  next_file = made.next_file;
  entries = made.entries ++ more;
  copies = made.copies;
  files = made.files;
}
