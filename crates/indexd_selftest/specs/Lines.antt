-- The lines that a selftest sends.
use Rattle.std.specs.Prelude.{◌+◌, ◌/◌, ◌%◌, ℕ, zero, suc, List, [], ◌∷◌, ◌++◌, codes}

-- the digit of a number at the place of this worth
abbrev pub digit : ℕ → ℕ → ℕ
digit worth number = 48 + number / worth % 10

abbrev pub two : ℕ → List ℕ
two number = digit 10 number ∷ digit 1 number ∷ []

abbrev pub seven : ℕ → List ℕ
seven number =
    digit 1000000 number ∷ digit 100000 number ∷ digit 10000 number ∷ digit 1000 number ∷ digit 100 number ∷ digit 10 number
    ∷ digit 1 number ∷ []

-- the time of day
abbrev pub clock : ℕ → List ℕ
clock second = two (second / 3600) ++ codes ":" ++ two (second / 60 % 60) ++ codes ":" ++ two (second % 60)

-- The line with this number, of 30 bytes: a second of a day, and the number itself.
unfoldable pub line : ℕ → List ℕ
line number = codes "2023-11-14 " ++ clock (number % 86400) ++ codes " n=" ++ seven number ++ codes "\n"

-- so many lines, from the one with this number on
abbrev pub lines_from : ℕ → ℕ → List ℕ
lines_from number zero = []
lines_from number (suc count) = line number ++ lines_from (number + 1) count

-- so many lines
abbrev pub stream : ℕ → List ℕ
stream count = lines_from 0 count
