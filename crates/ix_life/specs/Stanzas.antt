-- Which stanzas of indexes.conf are indexes, and how indexes are named. From Splunk's Admin Manual,
-- indexes.conf.
use Rattle.std.specs.Prelude.{ℕ, Bool, true, false, not, ◌&&◌, ◌||◌, ◌==◌, nat_eq, List, [], ◌∷◌, codes, bytes_eq, is_some}
use Rattle.std.specs.List.{starts_with, list_all}
use Rattle.std.specs.Char.{is_ascii_lowercase, is_ascii_digit}
use Rattle.ix_conf.specs.Value.{entry_at}
use Rattle.ix_conf.specs.declared.layers.MergedEntry.{MergedEntry}

abbrev pub is_default : List ℕ → Bool
is_default stanza = bytes_eq stanza (codes "default")

abbrev pub is_volume : List ℕ → Bool
is_volume stanza = starts_with nat_eq stanza (codes "volume:")

-- every other stanza is an index
abbrev pub is_index_stanza : List ℕ → Bool
is_index_stanza stanza = not (is_default stanza) && not (is_volume stanza)

-- `main` is always there
abbrev pub is_index : List MergedEntry → List ℕ → Bool
is_index entries name = bytes_eq name (codes "main") || (is_index_stanza name && is_some (entry_at name [] entries))

-- ---- names

abbrev pub is_letter_or_digit : ℕ → Bool
is_letter_or_digit b = is_ascii_lowercase b || is_ascii_digit b

abbrev pub is_name_byte : ℕ → Bool
is_name_byte b = (is_letter_or_digit b || b == 95) || b == 45

abbrev pub begins_name : List ℕ → Bool
begins_name [] = false
begins_name (b ∷ bs) = is_letter_or_digit b

-- whether a word stands in a text
abbrev pub contains : List ℕ → List ℕ → Bool
contains word [] = bytes_eq word []
contains word (b ∷ bs) = starts_with nat_eq (b ∷ bs) word || contains word bs

abbrev pub is_index_name : List ℕ → Bool
is_index_name name = (begins_name name && list_all is_name_byte name) && not (contains (codes "kvstore") name)
