-- What a plain book stands for.
use Rattle.std.specs.Prelude.{ℕ, Bool, true, List}
use Rattle.ix_base.specs.declared.files.File.{File}
use Rattle.ix_manifest.specs.Book.{NamedItems, empty, replay}
use Rattle.ix_items.specs.declared.items.Item.{Item}
use Rattle.ix_items.specs.declared.items.Item.TheVariants as items
use Rattle.ix_manifest.specs.declared.plain.PlainBook.{PlainBook}

abbrev pub stands_of : PlainBook → NamedItems
stands_of book = replay book.items empty

-- it takes any book
abbrev pub AnyBook : NamedItems → Type 0
AnyBook book = Unit {0}

-- the run behind an item
abbrev pub run_after : Item → ℕ → ℕ
run_after (items.Settings kept) before = before
run_after (items.Run run) before = run
run_after (items.Moments last tick) before = before
run_after (items.Channel name meta carry) before = before
run_after (items.Ended name) before = before
run_after (items.Bucket index bucket) before = before
run_after (items.Gone index id) before = before
run_after (items.Ledger entry) before = before
run_after (items.Counts settled nulled dropped placed) before = before
run_after (items.Spot spot) before = before
run_after (items.NextFile number) before = before
run_after (items.Removals files) before = before
run_after (items.NextId index id) before = before

-- the removals behind an item
abbrev pub removals_after : Item → List File → List File
removals_after (items.Settings kept) before = before
removals_after (items.Run run) before = before
removals_after (items.Moments last tick) before = before
removals_after (items.Channel name meta carry) before = before
removals_after (items.Ended name) before = before
removals_after (items.Bucket index bucket) before = before
removals_after (items.Gone index id) before = before
removals_after (items.Ledger entry) before = before
removals_after (items.Counts settled nulled dropped placed) before = before
removals_after (items.Spot spot) before = before
removals_after (items.NextFile number) before = before
removals_after (items.Removals files) before = files
removals_after (items.NextId index id) before = before

-- whether settings stand behind an item
abbrev pub settled_after : Item → Bool → Bool
settled_after (items.Settings kept) before = true
settled_after (items.Run run) before = before
settled_after (items.Moments last tick) before = before
settled_after (items.Channel name meta carry) before = before
settled_after (items.Ended name) before = before
settled_after (items.Bucket index bucket) before = before
settled_after (items.Gone index id) before = before
settled_after (items.Ledger entry) before = before
settled_after (items.Counts settled nulled dropped placed) before = before
settled_after (items.Spot spot) before = before
settled_after (items.NextFile number) before = before
settled_after (items.Removals files) before = before
settled_after (items.NextId index id) before = before
