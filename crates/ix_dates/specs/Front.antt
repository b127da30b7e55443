-- What a text must begin with, for one of the formats to read there.
use Rattle.std.specs.Prelude.{ℕ, ◌==◌, ◌&&◌, ◌||◌, Bool, false, List, [], ◌∷◌, get_or, if◌then◌else◌}
use Rattle.std.specs.Char.{is_ascii_digit, to_ascii_lowercase}
use Rattle.std.specs.List.{list_any}
use Rattle.ix_dates.specs.declared.known.KnownFormat.{KnownFormat}
use Rattle.ix_dates.specs.declared.known.KnownFormat.TheVariants.{Iso, Syslog, Access, American}
use Rattle.ix_dates.specs.Names.{month_names}

-- the byte stands at this place
abbrev pub stands : ℕ → ℕ → List ℕ → Bool
stands byte place text = get_or text place 0 == byte

-- behind a year
abbrev pub has_hyphen : List ℕ → Bool
has_hyphen text = stands 45 4 text

-- behind a day or a month
abbrev pub has_slash : List ℕ → Bool
has_slash text = stands 47 1 text || stands 47 2 text

-- the name begins with these letters
abbrev pub begins_with : ℕ → ℕ → ℕ → List ℕ → Bool
begins_with a b c name = (a == get_or name 0 0) && ((b == get_or name 1 0) && (c == get_or name 2 0))

-- a month's name begins with these letters, given in lower case
abbrev pub is_month : ℕ → ℕ → ℕ → Bool
is_month a b c = list_any (λ name. begins_with a b c name) month_names

unfoldable pub has_month : List ℕ → Bool
has_month (a ∷ b ∷ c ∷ rest) = is_month (to_ascii_lowercase a) (to_ascii_lowercase b) (to_ascii_lowercase c)
has_month _ = false

-- whether the format may read there
abbrev pub may_read : KnownFormat → List ℕ → Bool
may_read Iso text = has_hyphen text
may_read Syslog text = has_month text
may_read Access text = has_slash text
may_read American text = has_slash text

-- whether one of them may
unfoldable pub may_begin : List ℕ → Bool
may_begin [] = false
may_begin (a ∷ rest) =
    if is_ascii_digit a then has_slash (a ∷ rest) || has_hyphen (a ∷ rest) else has_month (a ∷ rest)

-- the text from the first place on at which one of them may
unfoldable pub skip_quiet : List ℕ → List ℕ
skip_quiet [] = []
skip_quiet (b ∷ rest) = if may_begin (b ∷ rest) then b ∷ rest else skip_quiet rest
