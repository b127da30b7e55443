-- The first break from a place on.
use Rattle.std.specs.Prelude.{◌<◌, ◌≤◌, ℕ, suc, ◌+◌, Bool, List, [], ◌∷◌, Option, Some}
use Rattle.ix_lines.specs.Walk.{Look, match, no_match, more, BreakFinder}
use Rattle.ix_lines.specs.declared.breaks.BreakLook.{BreakLook}
use Rattle.ix_lines.specs.declared.breaks.BreakLook.TheVariants.{Match, No, More}
use Rattle.ix_lines.specs.declared.breaks.Found.{Found}
use Rattle.ix_lines.specs.declared.breaks.Found.TheVariants.{Break, Stop}

-- the last of these bytes, or the one before them
abbrev pub last_byte : Option ℕ → List ℕ → Option ℕ
last_byte before [] = before
last_byte before (b ∷ bytes) = last_byte (Some b) bytes

abbrev pub look_of : BreakLook → Look
look_of (Match from to end) = match from to end
look_of No = no_match
look_of More = more

-- a break lies within its match, which takes a byte and lies within the text
abbrev pub IsSized : BreakLook → ℕ → Type 0
IsSized (Match from to end) len = (from ≤ to) × (to ≤ end) × (0 < end) × (end ≤ len)
IsSized No len = Unit {0}
IsSized More len = Unit {0}

abbrev pub past_one : Found → Found
past_one (Break from to end) = Break (suc from) (suc to) (suc end)
past_one (Stop at) = Stop (suc at)

abbrev pub past : ℕ → Found → Found
past n (Break from to end) = Break (n + from) (n + to) (n + end)
past n (Stop at) = Stop (n + at)

abbrev pub found_by : Found → Look → Found
found_by later more = Stop 0
found_by later no_match = past_one later
found_by later (match from to n) = Break from to n

-- the first break, or the place at which the walk stops: where more is wanted, or at the end
abbrev pub seek : BreakFinder → Bool → Option ℕ → List ℕ → Found
seek look unfinished before [] = Stop 0
seek look unfinished before (b ∷ bytes) =
    found_by (seek look unfinished (Some b) bytes) (look before (b ∷ bytes) unfinished)

-- it lies within so many bytes, and fewer than `most` are left where it stops
abbrev pub IsWithin : Found → ℕ → ℕ → Type 0
IsWithin (Break from to end) len most = (from ≤ to) × (to ≤ end) × (0 < end) × (end ≤ len)
IsWithin (Stop at) len most = (at ≤ len) × (len < at + most)

-- where the search goes on behind it, or from
abbrev pub end_of : Found → ℕ
end_of (Break from to end) = end
end_of (Stop at) = at

-- how many attempts were made at the most: no two at one place
abbrev pub most_looks : Found → ℕ
most_looks (Break from to end) = end
most_looks (Stop at) = at + 1
