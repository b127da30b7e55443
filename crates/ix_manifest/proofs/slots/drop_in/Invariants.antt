use Rattle.std.proofs.Common.{◌≡◌, ◌≤◌, ◌-◌, length, take}
use Rattle.std.specs.Prelude.{IfSome}
use Rattle.std.specs.List.{AllByRecursion}
use Rattle.ix_items.specs.Spelling.{HasSpelling}
use Rattle.ix_manifest.specs.Book.{NamedItems, replay}
use Rattle.ix_manifest.specs.Repeats.{Tells}
use Rattle.ix_manifest.specs.Slots.{bytes_of, items_of, AreOnce}
use Rattle.ix_manifest.proofs.slots.drop_in.Given as goal

abbrev pub invariant-loop-k : goal.invariant-loop-k
invariant-loop-k l = record {
  within : l.k ≤ length l.slots.items;
  tells : IfSome l.repeats (λ seen. Tells seen l.slots.items);
  size : l.size ≡ length (bytes_of l.slots.items);
  book : (book : NamedItems) → replay (items_of l.slots.items) book ≡ replay (items_of l.fn.slots.items) book;
  proper : AllByRecursion HasSpelling (items_of l.fn.slots.items) → AllByRecursion HasSpelling (items_of l.slots.items);
  once : AreOnce (items_of (take l.fn.from l.fn.slots.items)) → AreOnce (items_of (take l.k l.slots.items));
  least : length (bytes_of l.slots.items) ≤ length (bytes_of l.fn.slots.items);
}

abbrev pub decreases-loop-k : goal.decreases-loop-k
decreases-loop-k l = length l.slots.items - l.k
