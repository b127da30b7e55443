-- The stanzas of watched files and their paths. From Splunk's Admin Manual, inputs.conf.
use Rattle.std.specs.Prelude.{ℕ, Bool, true, false, ◌&&◌, ◌||◌, ◌==◌, nat_eq, if◌then◌else◌, List, [], ◌∷◌, Option, Some, None, codes, drop}
use Rattle.std.specs.List.{starts_with, list_any}
use Rattle.ix_life.specs.Stanzas.{contains}

-- the path of `monitor://PATH`
abbrev pub path_of : List ℕ → Option (List ℕ)
path_of stanza = if starts_with nat_eq stanza (codes "monitor://") then Some (drop 10 stanza) else None

-- whether a `*` has a `/` behind it, and so stands in another segment than the last
abbrev pub has_star_before_slash : List ℕ → Bool
has_star_before_slash [] = false
has_star_before_slash (b ∷ bs) = (b == 42 && list_any (λ c. c == 47) bs) || has_star_before_slash bs

abbrev pub is_empty : List ℕ → Bool
is_empty [] = true
is_empty (b ∷ bs) = false

abbrev pub is_bad_path : List ℕ → Bool
is_bad_path path = (is_empty path || contains (codes "...") path) || has_star_before_slash path
