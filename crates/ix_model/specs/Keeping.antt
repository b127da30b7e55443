-- Turns of housekeeping, rolls and thaws: what they do to the buckets of an index.
use Rattle.std.specs.Prelude.{◌+◌, ℕ, ℤ, Bool, true, false, if◌then◌else◌, List, [], ◌∷◌, Option, Some, None, is_some, option_to_list}
use Rattle.std.specs.Prelude.{slice_get}
use Rattle.std.specs.List.{count_by, flat_map}
use Rattle.ix_items.specs.declared.items.Bucket.{Bucket}
use Rattle.ix_items.specs.declared.items.Entry.{Entry}
use Rattle.ix_items.specs.declared.items.Rule.{Rule}
use Rattle.ix_life.specs.Housekeeping.{house}
use Rattle.ix_life.specs.Placing.{is_open}
use Rattle.ix_life.specs.declared.limits.Limits.{Limits}
use Rattle.ix_model.specs.Buckets.{Standing, live, frozen, Slot, entered, buckets}
use Rattle.ix_catalog.specs.Buckets.{Turn, rolled, thawed, is_among, rule_of, entry_of, staying}
use Rattle.ix_model.specs.Placed.{change_live}

-- ---- a turn of housekeeping

abbrev pub turn_of : List ℕ → Limits → ℤ → List Slot → Turn
turn_of index limits moment slots = record {
  index = index;
  archive = limits.archive;
  moment = moment;
  moves = house (buckets slots) limits moment;
}

abbrev pub turned_by : Turn → ℕ → Bucket → Option Rule → Standing
turned_by t file b None = live (staying t file b)
turned_by t file b (Some rule) = frozen (entry_of t file rule b) None

abbrev pub turned : Turn → ℕ → Standing → Standing
turned t file (live b) = turned_by t file b (rule_of t.moves.frozen b.id)
turned t file (frozen e other) = frozen e other

-- whether it takes a file: it moves to cold, or freezes into an archive
abbrev pub takes_by : Turn → Bucket → Option Rule → Bool
takes_by t b None = is_among t.moves.cooled b.id
takes_by t b (Some rule) = t.archive

abbrev pub takes_file : Turn → Standing → Bool
takes_file t (live b) = takes_by t b (rule_of t.moves.frozen b.id)
takes_file t (frozen e other) = false

-- the number behind the files that a turn has taken
abbrev pub file_behind : Turn → ℕ → Standing → ℕ
file_behind t file standing = if takes_file t standing then file + 1 else file

-- the buckets behind a turn; files are taken by the numbers of the buckets, from this one on
abbrev pub all_turned : Turn → ℕ → List Slot → List Slot
all_turned t file [] = []
all_turned t file (s ∷ slots) =
    record { events = s.events; standing = turned t file s.standing } ∷ all_turned t (file_behind t file s.standing) slots

abbrev pub files_taken : Turn → List Slot → ℕ
files_taken t slots = count_by (λ (s : Slot). takes_file t s.standing) slots

-- the entry of the bucket at a place, where it is frozen
abbrev pub entered_at : Option Slot → Option Entry
entered_at None = None
entered_at (Some s) = entered s.standing

-- the entries of the buckets that freeze in a turn, in its order; the buckets are those behind it
abbrev pub entries_of : Turn → List Slot → List Entry
entries_of t slots = flat_map (λ (x : ℕ × Rule). option_to_list (entered_at (slice_get slots x.0))) t.moves.frozen

-- whether a bucket freezes
abbrev pub freezes : Turn → Standing → Bool
freezes t (live b) = is_some (rule_of t.moves.frozen b.id)
freezes t (frozen e other) = false

abbrev pub many_freeze : Turn → List Slot → ℕ
many_freeze t slots = count_by (λ (s : Slot). freezes t s.standing) slots

-- ---- a roll

-- a hot or quarantine bucket rolls to warm
abbrev pub closed : Bucket → Bucket
closed b = if is_open b then rolled b else b

abbrev pub closed_slot : Slot → Slot
closed_slot s = record { events = s.events; standing = change_live closed s.standing }

-- ---- a thaw

-- from its archive into this file, where it has an archive and is not thawed
abbrev pub thawed_by : Entry → Option ℕ → ℕ → Option Bucket → Standing
thawed_by e None file other = frozen e other
thawed_by e (Some archive) file (Some b) = frozen e (Some b)
thawed_by e (Some archive) file None = frozen e (Some (thawed e file))

abbrev pub thawing : ℕ → Standing → Standing
thawing file (live b) = live b
thawing file (frozen e other) = thawed_by e e.archive file other

-- whether it is brought back
abbrev pub can_thaw_by : Option ℕ → Option Bucket → Bool
can_thaw_by None other = false
can_thaw_by (Some archive) (Some b) = false
can_thaw_by (Some archive) None = true

abbrev pub can_thaw : Standing → Bool
can_thaw (live b) = false
can_thaw (frozen e other) = can_thaw_by e.archive other

abbrev pub thawed_slot : ℕ → Slot → Slot
thawed_slot file s = record { events = s.events; standing = thawing file s.standing }
