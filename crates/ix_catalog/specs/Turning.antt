-- Turns of housekeeping, rolls and thaws: what they do to the shelves, what is to be copied, and
-- which files are done with.
use Rattle.std.specs.Prelude.{◌+◌, ◌==◌, ◌&&◌, ℕ, ℤ, Bool, if◌then◌else◌, List, [], ◌∷◌, ◌++◌, map, fold, Option, Some, None, nat_lt}
use Rattle.std.specs.List.{flat_map, count_by}
use Rattle.ix_base.specs.declared.files.File.{File}
use Rattle.ix_base.specs.declared.files.Area.TheVariants as areas
use Rattle.ix_items.specs.declared.items.Bucket.{Bucket}
use Rattle.ix_items.specs.declared.items.Entry.{Entry}
use Rattle.ix_items.specs.declared.items.Rule.{Rule}
use Rattle.ix_commit.specs.declared.file_copy.FileCopy.{FileCopy}
use Rattle.ix_commit.specs.declared.file_copy.CopyTarget.{CopyTarget}
use Rattle.ix_commit.specs.declared.file_copy.CopyTarget.TheVariants as places
use Rattle.ix_life.specs.Housekeeping.{house}
use Rattle.ix_life.specs.Placing.{is_open}
use Rattle.ix_life.specs.declared.views.IndexView.{IndexView}
use Rattle.ix_catalog.specs.Buckets.{Turn, is_among, rule_of, entry_of, staying, rolled_if_open, thawed}
use Rattle.ix_catalog.specs.Lists.{change}
use Rattle.ix_catalog.specs.Shelves.{is_live, view_name, with_buckets, with_indexes}
use Rattle.ix_catalog.specs.declared.housekeeping_result.HousekeepingResult.{HousekeepingResult}
use Rattle.ix_catalog.specs.declared.index_table.IndexTable.{IndexTable}

-- ---- a turn in one index

abbrev pub turn_of : ℤ → IndexView → Turn
turn_of moment v = record { index = v.name; archive = v.limits.archive; moment = moment; moves = house v.buckets v.limits moment }

-- the rule by which a bucket freezes; a thawed one is under none
abbrev pub freezes_by : Turn → Bucket → Option Rule
freezes_by t b = if is_live b then rule_of t.moves.frozen b.id else None

abbrev pub cools : Turn → Bucket → Bool
cools t b = is_live b && is_among t.moves.cooled b.id

-- whether it takes a file: it moves to cold, or freezes into an archive
abbrev pub takes_by : Turn → Bucket → Option Rule → Bool
takes_by t b None = cools t b
takes_by t b (Some rule) = t.archive

abbrev pub takes_file : Turn → Bucket → Bool
takes_file t b = takes_by t b (freezes_by t b)

abbrev pub file_behind : Turn → ℕ → Bucket → ℕ
file_behind t file b = if takes_file t b then file + 1 else file

-- a bucket with the file that it takes, where it takes one; files are taken by the numbers of the
-- buckets, from this one on
abbrev pub Numbered : Type 0
Numbered = Bucket × ℕ

abbrev pub numbered : Turn → ℕ → List Bucket → List Numbered
numbered t file [] = []
numbered t file (b ∷ bs) = (b, file) ∷ numbered t (file_behind t file b) bs

abbrev pub files_taken : Turn → List Bucket → ℕ
files_taken t bs = count_by (takes_file t) bs

-- what stays of a bucket: nothing where it freezes
abbrev pub stays_by : Turn → ℕ → Bucket → Option Rule → List Bucket
stays_by t file b (Some rule) = []
stays_by t file b None = (if is_live b then staying t file b else b) ∷ []

abbrev pub stays : Turn → Numbered → List Bucket
stays t x = stays_by t x.1 x.0 (freezes_by t x.0)

abbrev pub turned : Turn → ℕ → List Bucket → List Bucket
turned t file bs = flat_map (stays t) (numbered t file bs)

-- the bucket of this number, with its file
abbrev pub numbered_id : ℕ → List Numbered → Option Numbered
numbered_id id [] = None
numbered_id id (x ∷ xs) = if is_live x.0 && (x.0.id == id) then Some x else numbered_id id xs

abbrev pub entry_by : Turn → Rule → Option Numbered → List Entry
entry_by t rule None = []
entry_by t rule (Some x) = entry_of t x.1 rule x.0 ∷ []

-- the entries of the buckets that freeze, in the order in which they do
abbrev pub entries : Turn → ℕ → List Bucket → List Entry
entries t file bs = flat_map (λ (x : ℕ × Rule). entry_by t x.1 (numbered_id x.0 (numbered t file bs))) t.moves.frozen

-- ---- its copies, and the files that are done with

abbrev pub copy_to : CopyTarget → Numbered → FileCopy
copy_to place x = record { from = x.0.file; place = place; number = x.1; len = x.0.bytes }

abbrev pub copies_by : Turn → Numbered → Option Rule → List FileCopy
copies_by t x None = if cools t x.0 then copy_to places.Cold x ∷ [] else []
copies_by t x (Some rule) = if t.archive then copy_to places.Frozen x ∷ [] else []

abbrev pub copies : Turn → ℕ → List Bucket → List FileCopy
copies t file bs = flat_map (λ (x : Numbered). copies_by t x (freezes_by t x.0)) (numbered t file bs)

abbrev pub leaves_by : Turn → Bucket → Option Rule → List File
leaves_by t b None = if cools t b then b.file ∷ [] else []
leaves_by t b (Some rule) = b.file ∷ []

abbrev pub left_files : Turn → List Bucket → List File
left_files t bs = flat_map (λ (b : Bucket). leaves_by t b (freezes_by t b)) bs

-- ---- a turn in all indexes, one behind the other

abbrev pub turn_index : ℤ → HousekeepingResult → IndexView → HousekeepingResult
turn_index moment made v =
    let t = turn_of moment v in record {
      indexes = made.indexes ++ with_buckets (turned t made.next_file v.buckets) v ∷ [];
      next_file = made.next_file + files_taken t v.buckets;
      entries = made.entries ++ entries t made.next_file v.buckets;
      copies = made.copies ++ copies t made.next_file v.buckets;
      files = made.files ++ left_files t v.buckets;
    }

abbrev pub untouched : ℕ → HousekeepingResult
untouched next_file = record { indexes = []; next_file = next_file; entries = []; copies = []; files = [] }

abbrev pub turn_all : ℤ → IndexTable → HousekeepingResult
turn_all moment s = fold (turn_index moment) (untouched s.next_file) s.indexes

-- ---- a roll

abbrev pub rolled_index : IndexView → IndexView
rolled_index v = with_buckets (map rolled_if_open v.buckets) v

abbrev pub roll : List ℕ → IndexTable → IndexTable
roll index s = with_indexes (change view_name index rolled_index s.indexes) s.next_file s

-- how many buckets of an index take events
abbrev pub open_in : Option IndexView → ℕ
open_in None = 0
open_in (Some v) = count_by is_open v.buckets

-- ---- a thaw

-- by their numbers
abbrev pub insert_id : Bucket → List Bucket → List Bucket
insert_id b [] = b ∷ []
insert_id b (c ∷ bs) = if nat_lt c.id b.id then c ∷ insert_id b bs else b ∷ c ∷ bs

abbrev pub thaw_index : Entry → ℕ → IndexView → IndexView
thaw_index e file v = with_buckets (insert_id (thawed e file) v.buckets) v

abbrev pub thaw : Entry → IndexTable → IndexTable
thaw e s = with_indexes (change view_name e.index (thaw_index e s.next_file) s.indexes) (s.next_file + 1) s

-- the archive is copied into the new file
abbrev pub thaw_copy : Entry → ℕ → ℕ → FileCopy
thaw_copy e archive file = record {
  from = record { area = areas.Frozen; number = archive };
  place = places.Thawed;
  number = file;
  len = e.bytes;
}
