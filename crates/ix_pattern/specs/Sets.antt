-- Sets of bytes: a test for each of the 256 bytes.
use Rattle.std.specs.Prelude.{ℕ, ◌+◌, ◌-◌, Bool, false, ◌&&◌, ◌||◌, not, if◌then◌else◌, nat_le, List, replicate, map}
use Rattle.std.specs.List.{range_with_len}
use Rattle.ix_pattern.specs.Piece.{in_set}

unfoldable pub none : List Bool
none = replicate 256 false

-- the set that has the bytes at which the test holds
unfoldable pub bytes_where : (ℕ → Bool) → List Bool
bytes_where test = map test (range_with_len 0 256)

-- the set, and the bytes from low to high
unfoldable pub with_range : ℕ → ℕ → List Bool → List Bool
with_range low high set = bytes_where (λ b. in_set set b || (nat_le low b && nat_le b high))

unfoldable pub union : List Bool → List Bool → List Bool
union set other = bytes_where (λ b. in_set set b || in_set other b)

abbrev pub is_upper : ℕ → Bool
is_upper b = nat_le 65 b && nat_le b 90

abbrev pub is_lower : ℕ → Bool
is_lower b = nat_le 97 b && nat_le b 122

-- an ASCII letter in its other case
unfoldable pub other_case : ℕ → ℕ
other_case b = if is_upper b then b + 32 else if is_lower b then b - 32 else b

-- where the cases of letters are not told apart: the bytes that stand in the set in either case
unfoldable pub folded : Bool → List Bool → List Bool
folded fold set = bytes_where (λ b. in_set set b || (fold && in_set set (other_case b)))

unfoldable pub complement : List Bool → List Bool
complement set = bytes_where (λ b. not (in_set set b))

unfoldable pub digits : List Bool
digits = with_range 48 57 none

unfoldable pub words : List Bool
words = with_range 95 95 (with_range 97 122 (with_range 65 90 (with_range 48 57 none)))

unfoldable pub spaces : List Bool
spaces = with_range 32 32 (with_range 9 13 none)
