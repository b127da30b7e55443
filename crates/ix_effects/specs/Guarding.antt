-- What indexes and entries must be like so that they can be written, each told by itself.
use Rattle.std.specs.Prelude.{◌≡◌}
use Rattle.std.specs.declared.cmp.Ordering.TheVariants.{Less}
use Rattle.std.specs.Ordering.{nat_cmp}
use Rattle.std.specs.Cmp.Lexicographic.{slice_cmp}
use Rattle.ix_coding.specs.Spelling.{IsShort}
use Rattle.ix_items.specs.Spelling.{IsWritable}
use Rattle.ix_items.specs.declared.items.Entry.{Entry}
use Rattle.ix_items.specs.declared.items.Item.TheVariants as items
use Rattle.ix_life.specs.declared.views.IndexView.{IndexView}

abbrev pub HasShortName : IndexView → Type 0
HasShortName v = IsShort v.name

abbrev pub IsWritableEntry : Entry → Type 0
IsWritableEntry e = IsWritable (items.Ledger e)

-- the one stands before the other by the bytes of their names
abbrev pub Ascends : IndexView → IndexView → Type 0
Ascends v w = slice_cmp nat_cmp v.name w.name ≡ Less
