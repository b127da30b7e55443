-- Texts with escapes, and texts with the numbers of groups.
use Rattle.std.specs.Prelude.{ℕ, ◌+◌, ◌-◌, ◌*◌, ◌==◌, ◌&&◌, not, if◌then◌else◌, nat_le, Bool, true, false, List, [], ◌∷◌, Option, Some}
use Rattle.std.specs.Prelude.{None}
use Rattle.std.specs.Option.{option_map, option_and_then}
use Rattle.std.specs.Char.{is_ascii_digit, is_ascii_alphanumeric}
use Rattle.ix_conf_values.specs.declared.escapes.Part.{Part}
use Rattle.ix_conf_values.specs.declared.escapes.Part.TheVariants.{Byte, Group}

-- what stands before the next `/` that no backslash escapes, and what stands behind it; the first
-- argument tells whether a backslash escapes the first byte
abbrev pub cut : Bool → List ℕ → Option (List ℕ × List ℕ)
cut escaped [] = None
cut escaped (b ∷ bs) =
    if not escaped && (b == 47) then Some ([], bs)
    else option_map (λ found. (b ∷ found.0, found.1)) (cut (not escaped && (b == 92)) bs)

-- what an escaped byte stands for: 1 to 9 for a group, `n` and `t`, and itself where it is no
-- letter or digit
abbrev pub escape : ℕ → Option Part
escape b =
    if nat_le 49 b && nat_le b 57 then Some (Group (b - 48))
    else if b == 110 then Some (Byte 10)
    else if b == 116 then Some (Byte 9)
    else if is_ascii_alphanumeric b then None
    else Some (Byte b)

-- the parts of a text; none where it has an escape that stands for nothing
abbrev pub parts : Bool → List ℕ → Option (List Part)
parts false [] = Some []
parts true [] = None
parts true (b ∷ bs) = option_and_then (λ part. option_map (λ rest. part ∷ rest) (parts false bs)) (escape b)
parts false (b ∷ bs) = if b == 92 then parts true bs else option_map (λ rest. Byte b ∷ rest) (parts false bs)

-- the bytes of parts among which there is no group
abbrev pub plain_bytes : List Part → Option (List ℕ)
plain_bytes [] = Some []
plain_bytes (Byte b ∷ rest) = option_map (λ bytes. b ∷ bytes) (plain_bytes rest)
plain_bytes (Group n ∷ rest) = None

-- the parts of a text in which `$` and one or two digits stand for a group
abbrev pub numbered : List ℕ → List Part
numbered [] = []
numbered (b ∷ []) = Byte b ∷ []
numbered (b ∷ c ∷ []) =
    if (b == 36) && is_ascii_digit c then Group (c - 48) ∷ []
    else Byte b ∷ numbered (c ∷ [])
numbered (b ∷ c ∷ d ∷ bs) =
    if (b == 36) && is_ascii_digit c then
    (if is_ascii_digit d then Group ((c - 48) * 10 + (d - 48)) ∷ numbered bs
    else Group (c - 48) ∷ numbered (d ∷ bs))
    else Byte b ∷ numbered (c ∷ d ∷ bs)
