-- What the definitions of reading come to.
use Rattle.std.specs.Prelude.{◌≡◌, ◌<◌, ◌≤◌, ◌+◌, ◌-◌, ◌*◌, ◌^◌, ℕ, Bool, true, false, List, [], ◌∷◌, ◌++◌, length, MatchOption}
use Rattle.std.specs.Char.{is_ascii_digit}
use Rattle.std.specs.List.{AllByRecursion}
use Rattle.ix_dates.specs.Text.{number}

abbrev pub IsDigit : ℕ → Type 0
IsDigit b = is_ascii_digit b ≡ true

-- what digits come to in the decimal system
unfoldable pub decimal : List ℕ → ℕ
decimal [] = 0
decimal (d ∷ ds) = (d - 48) * 10 ^ length ds + decimal ds

abbrev pub begins_with_digit : List ℕ → Bool
begins_with_digit [] = false
begins_with_digit (b ∷ rest) = is_ascii_digit b

-- a text is some digits and a rest; there are that many of them at the least and at the most, and
-- no more stand there
pub record Numbers (least most : ℕ) (text : List ℕ) (value : ℕ) (rest : List ℕ) : Type 0 where
  pub digits : List ℕ
  pub whole : text ≡ digits ++ rest
  pub all : AllByRecursion IsDigit digits
  pub enough : least ≤ length digits
  pub few : length digits ≤ most
  pub stops : length digits < most → begins_with_digit rest ≡ false
  pub value_is : value ≡ decimal digits

-- A number is read of exactly such texts, and it is what its digits come to in the decimal system.
abbrev pub NumbersAreDecimal : Type 0
NumbersAreDecimal = (least most : ℕ) (text : List ℕ) →
    MatchOption (number least most text) ((value : ℕ) (rest : List ℕ) → Numbers least most text value rest →
    ⊥) (λ p. Numbers least most text p.0 p.1)
