-- Sets of at most three bytes.
use Rattle.std.specs.Prelude.{◌≡◌, ℕ, ◌<◌, Bool, false, ◌==◌, ◌||◌, List}
use Rattle.ix_pattern.specs.Piece.{in_set}
use Rattle.ix_match.specs.declared.few.Few.{Few}
use Rattle.ix_match.specs.declared.few.Few.TheVariants.{One, Two, Three, Other}

abbrev pub is_one_of : Few → ℕ → Bool
is_one_of (One a) x = x == a
is_one_of (Two a b) x = x == a || x == b
is_one_of (Three a b c) x = x == a || x == b || x == c
is_one_of Other x = false

-- the set's bytes are these
abbrev pub AreItsBytes : (ℕ → Bool) → List Bool → Type 0
AreItsBytes test set = (b : ℕ) → b < 256 → in_set set b ≡ test b

-- so it is where they are named
abbrev pub Lists : Few → List Bool → Type 0
Lists (One a) set = AreItsBytes (is_one_of (One a)) set
Lists (Two a b) set = AreItsBytes (is_one_of (Two a b)) set
Lists (Three a b c) set = AreItsBytes (is_one_of (Three a b c)) set
Lists Other set = Unit {0}
