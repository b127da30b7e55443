-- The limits of a head.
use Rattle.std.specs.Prelude.{ℕ}

-- the most bytes that a head may have
abbrev pub max_head : ℕ
max_head = 16384

-- the most header lines that a good head has
abbrev pub max_lines : ℕ
max_lines = 64

-- as many header lines as a head of that size can have
abbrev pub line_room : ℕ
line_room = 5461
