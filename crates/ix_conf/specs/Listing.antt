-- The printed listing of merged settings.
use Rattle.std.specs.Prelude.{ℕ, List, [], ◌∷◌, ◌++◌}
use Rattle.std.specs.List.{flat_map}
use Rattle.ix_conf.specs.declared.layers.MergedEntry.{MergedEntry}

-- `[stanza]` for a stanza's own entry, and `layer key=value` for a setting
abbrev pub line_with_key : MergedEntry → List ℕ → List ℕ
line_with_key entry [] = 91 ∷ entry.stanza ++ 93 ∷ 10 ∷ []
line_with_key entry (b ∷ key) = entry.layer ++ 32 ∷ (b ∷ key) ++ 61 ∷ entry.value ++ 10 ∷ []

abbrev pub line_of : MergedEntry → List ℕ
line_of entry = line_with_key entry entry.key

abbrev pub listing : List MergedEntry → List ℕ
listing entries = flat_map line_of entries
