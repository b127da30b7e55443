-- The files of buckets and archives: which numbers they have.
use Rattle.std.specs.Prelude.{◌≤◌, ◌<◌, ◌+◌, ◌==◌, ℕ, if◌then◌else◌, Option, Some, None}
use Rattle.std.specs.List.{sum_by}
use Rattle.ix_items.specs.declared.items.Bucket.{Bucket}
use Rattle.ix_model.specs.Buckets.{Standing, live, frozen, Slot, Index}
use Rattle.ix_model.specs.State.{Catalog}

abbrev pub once_if : ℕ → ℕ → ℕ
once_if n number = if number == n then 1 else 0

abbrev pub archive_uses : ℕ → Option ℕ → ℕ
archive_uses n None = 0
archive_uses n (Some number) = once_if n number

abbrev pub bucket_uses : ℕ → Option Bucket → ℕ
bucket_uses n None = 0
bucket_uses n (Some b) = once_if n b.file.number

-- how often a number is that of the file of a bucket or of its archive
abbrev pub standing_uses : ℕ → Standing → ℕ
standing_uses n (live b) = once_if n b.file.number
standing_uses n (frozen e thawed) = archive_uses n e.archive + bucket_uses n thawed

abbrev pub slot_uses : ℕ → Slot → ℕ
slot_uses n s = standing_uses n s.standing

abbrev pub index_uses : ℕ → Index → ℕ
index_uses n i = sum_by (slot_uses n) i.slots

abbrev pub uses : ℕ → Catalog → ℕ
uses n s = sum_by (index_uses n) s.indexes

-- From one to the other no number is used again: none below the next file's is used more often,
-- each from there on up to the new next one is used once more at most, and none beyond.
pub record Renews (old new : Catalog) : Type 0 where
  pub later : old.next_file ≤ new.next_file
  pub old_ones : (n : ℕ) → n < old.next_file → uses n new ≤ uses n old
  pub new_ones : (n : ℕ) → old.next_file ≤ n → n < new.next_file → uses n new ≤ uses n old + 1
  pub none_beyond : (n : ℕ) → new.next_file ≤ n → uses n new ≤ uses n old

-- files have numbers of their own, from 1 on and below the next file's
pub record AreApart (s : Catalog) : Type 0 where
  pub one_each : (n : ℕ) → uses n s ≤ 1
  pub from_one : uses 0 s ≤ 0
  pub below : (n : ℕ) → s.next_file ≤ n → uses n s ≤ 0
