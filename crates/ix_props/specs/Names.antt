-- Lists of names. From Splunk's Admin Manual, props.conf, "TRANSFORMS-<class>".
use Rattle.std.specs.Prelude.{ℕ, ◌==◌, if◌then◌else◌, List, [], ◌∷◌, ◌++◌, reverse}

abbrev pub skip_spaces : List ℕ → List ℕ
skip_spaces [] = []
skip_spaces (b ∷ bs) = if b == 32 then skip_spaces bs else b ∷ bs

abbrev pub trim_back : List ℕ → List ℕ
trim_back text = reverse (skip_spaces (reverse text))

-- without the spaces at both ends
abbrev pub trimmed : List ℕ → List ℕ
trimmed text = trim_back (skip_spaces text)

-- a byte in front of the first piece
abbrev pub onto : ℕ → List (List ℕ) → List (List ℕ)
onto b [] = (b ∷ []) ∷ []
onto b (piece ∷ pieces) = (b ∷ piece) ∷ pieces

-- what stands between commas
abbrev pub pieces : List ℕ → List (List ℕ)
pieces [] = [] ∷ []
pieces (b ∷ bs) = if b == 44 then [] ∷ pieces bs else onto b (pieces bs)

-- an empty name is none
abbrev pub name_in : List ℕ → List (List ℕ)
name_in [] = []
name_in (b ∷ bs) = (b ∷ bs) ∷ []

abbrev pub names_in : List (List ℕ) → List (List ℕ)
names_in [] = []
names_in (piece ∷ pieces) = name_in (trimmed piece) ++ names_in pieces

abbrev pub names : List ℕ → List (List ℕ)
names text = names_in (pieces text)
