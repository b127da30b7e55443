-- What is known of a list of items without going over it: bounds of what they count for, from above.
use Rattle.std.specs.Prelude.{◌≡◌, ◌≤◌, ◌<◌, ℕ, List, Bool, true, false, if◌then◌else◌, All}
use Rattle.std.specs.BTreeSet.{BTreeSet, Updates, contains}
use Rattle.std.specs.List.{sum_by}
use Rattle.std.specs.Ordering.{nat_cmp}
use Rattle.ix_items.specs.declared.items.Item.{Item}
use Rattle.ix_replay.specs.Amounts.{uses, bytes_in, events_in, channels_in, size_in}
use Rattle.ix_replay.specs.Bounds.{IsWithin}
use Rattle.ix_replay.specs.declared.file_numbers.FileNumbers.{FileNumbers}
use Rattle.ix_replay.specs.declared.tally.Tally.{Tally}
use Rattle.ix_replay.specs.declared.totals.Totals.{Totals}

-- what they add up to is no more than the totals say
pub record CoversAmounts (totals : Totals) (items : List Item) : Type 0 where
  pub bytes : sum_by bytes_in items ≤ totals.bytes
  pub events : sum_by events_in items ≤ totals.events
  pub channels : sum_by channels_in items ≤ totals.channels
  pub size : sum_by size_in items ≤ totals.size

abbrev pub has : BTreeSet ℕ → ℕ → Bool
has held n = contains nat_cmp held n

-- the numbers of their files are held, once each; none is 0, and all are below the next one
pub record CoversFiles (numbers : FileNumbers) (items : List Item) : Type 0 where
  pub used : (n : ℕ) → sum_by (uses n) items ≤ (if has numbers.held n then 1 else 0)
  pub from_one : sum_by (uses 0) items ≤ 0
  pub below : (n : ℕ) → numbers.next ≤ n → sum_by (uses n) items ≤ 0

-- a number that was not there comes to those that are held
pub record Holds (n : ℕ) (old new : FileNumbers) : Type 0 where
  pub from_one : 0 < n
  pub other : has old.held n ≡ false
  pub held : Updates nat_cmp old.held new.held n true
  pub next : old.next ≤ new.next
  pub below : n < new.next

-- each is in its range as well
pub record Covers (tally : Tally) (items : List Item) : Type 0 where
  pub within : All IsWithin items
  pub amounts : CoversAmounts tally.totals items
  pub files : CoversFiles tally.files items
