-- Tests whether kept settings stand as settings are kept.
use Rattle.std.specs.Prelude.{ℕ, Bool, true, false, ◌&&◌, nat_le, List, [], ◌∷◌, Option, Some, None, length, bytes_eq}
use Rattle.std.specs.List.{list_all}
use Rattle.ix_conf.specs.declared.layers.MergedEntry.{MergedEntry}
use Rattle.ix_items.specs.declared.items.Kept.{Kept}

-- the name of its stanza is within the limit
abbrev pub has_name : Kept → Bool
has_name kept = nat_le (length kept.stanza) 1024

abbrev pub follows : ℕ → ℕ → Bool
follows file next = nat_le file next && nat_le next 4

-- they stand file by file, from this file on
abbrev pub by_file : ℕ → List Kept → Bool
by_file file [] = true
by_file file (kept ∷ force) = follows file kept.file && by_file kept.file force

abbrev pub stands_well : List Kept → Bool
stands_well force = by_file 1 force && list_all has_name force

abbrev pub same_entry : MergedEntry → MergedEntry → Bool
same_entry x y = bytes_eq x.stanza y.stanza && (bytes_eq x.key y.key && (bytes_eq x.value y.value && bytes_eq x.layer y.layer))

abbrev pub same_entries : List MergedEntry → List MergedEntry → Bool
same_entries [] [] = true
same_entries [] (y ∷ ys) = false
same_entries (x ∷ xs) [] = false
same_entries (x ∷ xs) (y ∷ ys) = same_entry x y && same_entries xs ys

abbrev pub is_there : Option MergedEntry → MergedEntry → Bool
is_there None y = false
is_there (Some x) y = same_entry x y
