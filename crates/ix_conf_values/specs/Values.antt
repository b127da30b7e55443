-- The value of a key in a stanza, or else in `default`.
use Rattle.std.specs.Prelude.{ℕ, List, [], ◌∷◌, Option, Some, None, codes}
use Rattle.std.specs.Option.{option_map, option_or}
use Rattle.ix_conf.specs.Value.{value_at}
use Rattle.ix_conf.specs.declared.layers.MergedEntry.{MergedEntry}

-- the value of a key in this stanza alone
abbrev pub own_value : List MergedEntry → List ℕ → List ℕ → Option (List ℕ)
own_value entries stanza key = option_map (λ (found : List ℕ × List ℕ). found.0) (value_at stanza key entries)

-- an empty value is one like any other while it is looked for, and then says no more than that
-- there is none
abbrev pub stated : Option (List ℕ) → Option (List ℕ)
stated None = None
stated (Some []) = None
stated (Some (b ∷ bs)) = Some (b ∷ bs)

-- the value of a key in this stanza, else in `default`
abbrev pub value_of : List MergedEntry → List ℕ → List ℕ → Option (List ℕ)
value_of entries stanza key = stated (option_or (own_value entries stanza key) (own_value entries (codes "default") key))
