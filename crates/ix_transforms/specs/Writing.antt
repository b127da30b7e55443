-- What is written in place of a match.
use Rattle.std.specs.Prelude.{ℕ, zero, suc, List, [], ◌∷◌, Option, Some, None, slice_get, slice_range}
use Rattle.std.specs.List.{flat_map}
use Rattle.std.specs.Option.{option_and_then}
use Rattle.ix_conf_values.specs.declared.escapes.Part.{Part}
use Rattle.ix_conf_values.specs.declared.escapes.Part.TheVariants.{Byte, Group}

-- the span of a group; none where it took no part or is not there
abbrev pub span_at : List (Option (ℕ × ℕ)) → ℕ → Option (ℕ × ℕ)
span_at spans k = option_and_then (λ span. span) (slice_get spans k)

abbrev pub taken : List ℕ → Option (ℕ × ℕ) → List ℕ
taken text None = []
taken text (Some span) = slice_range text span.0 span.1

-- what the number of a group stands for, where group 0 stands for the text `zeroth`
abbrev pub group_text : List ℕ → List ℕ → List (Option (ℕ × ℕ)) → ℕ → List ℕ
group_text zeroth text spans zero = zeroth
group_text zeroth text spans (suc k) = taken text (span_at spans k)

abbrev pub part_text : List ℕ → List ℕ → List (Option (ℕ × ℕ)) → Part → List ℕ
part_text zeroth text spans (Byte b) = b ∷ []
part_text zeroth text spans (Group n) = group_text zeroth text spans n

-- what parts stand for at a match in a text
abbrev pub written : List Part → List ℕ → List ℕ → List (Option (ℕ × ℕ)) → List ℕ
written parts zeroth text spans = flat_map (part_text zeroth text spans) parts
