-- A number of each name. Names of two numbers are two; two names of one number are rare.
use Rattle.std.specs.Prelude.{◌≡◌, ◌+◌, ◌*◌, ◌%◌, ℕ, List, fold}
use Rattle.ix_items.specs.declared.items.Item.{Item}
use Rattle.ix_manifest.specs.Book.{Name, name_of}

-- a sum of bytes in which each place counts, below the greatest prime that has room in 32 bits
abbrev pub mixed : ℕ → ℕ → ℕ
mixed sum byte = (sum * 31 + byte) % 4294967291

-- the sum of the kind and the text, and the low 32 bits of the number
abbrev pub key : Name → ℕ
key name = fold mixed name.kind name.text * 4294967296 + name.number % 4294967296

abbrev pub key_in : Item → ℕ
key_in item = key (name_of item)
