-- What stands at the front of a text.
use Rattle.std.specs.Prelude.{ℕ, ◌+◌, ◌-◌, ◌*◌, ◌/◌, ◌^◌, ◌==◌, ◌||◌, nat_le, nat_lt, ◌&&◌, Bool, List, [], ◌∷◌, Option, Some, None}
use Rattle.std.specs.Prelude.{option_map, option_and_then, if◌then◌else◌}
use Rattle.std.specs.Char.{is_ascii_digit}
use Rattle.std.specs.Borrow.{Bor}

-- a value and the text behind it
abbrev pub Read : Type 0 → Type 0
Read A = Option (A × List ℕ)

-- what a function read, with the text behind the reference
abbrev pub read_view : {A : Type 0} → Option (A × Bor (List ℕ)) → Read A
read_view r = option_map (λ p. (p.0, p.1.now)) r

abbrev pub rest_view : Option (Bor (List ℕ)) → Option (List ℕ)
rest_view r = option_map (λ s. s.now) r

infixl 10 ◌>>=◌
abbrev pub ◌>>=◌ : {A B : Type 0} → Option A → (A → Option B) → Option B
o >>= f = option_and_then f o

-- `none` for nothing, and `some` of a value
abbrev pub match_some : {A B : Type 0} → Option A → B → (A → B) → B
match_some None none some = none
match_some (Some x) none some = some x

-- the first of two readings that reads
abbrev pub or_else : {A : Type 0} → Option A → Option A → Option A
or_else first second = match_some first second Some

-- the text behind this byte
unfoldable pub behind : ℕ → List ℕ → Option (List ℕ)
behind byte [] = None
behind byte (b ∷ rest) = if b == byte then Some rest else None

abbrev pub is_space : ℕ → Bool
is_space b = (nat_le 9 b && nat_le b 13) || (b == 32)

-- the text behind its white space
unfoldable pub skip_space : List ℕ → List ℕ
skip_space [] = []
skip_space (b ∷ rest) = if is_space b then skip_space rest else b ∷ rest

-- Digits that go on a number, as many as there are, until they are so many: what the number comes
-- to, how many digits it has, and the text behind them.
unfoldable pub digits : ℕ → ℕ → ℕ → List ℕ → ℕ × ℕ × List ℕ
digits most value count [] = (value, count, [])
digits most value count (b ∷ rest) =
    if is_ascii_digit b && nat_lt count most then digits most (value * 10 + (b - 48)) (count + 1) rest
    else (value, count, b ∷ rest)

abbrev pub if_enough : {A : Type 0} → ℕ → (ℕ × ℕ × List ℕ) → (ℕ → ℕ → A) → Read A
if_enough least d make = if nat_le least d.1 then Some (make d.0 d.1, d.2) else None

-- a number of at least and at most so many digits, as many as there are
unfoldable pub number : ℕ → ℕ → List ℕ → Read ℕ
number least most text = if_enough least (digits most 0 0 text) (λ value count. value)

-- the same, from `low` to `high`
unfoldable pub within : ℕ → ℕ → ℕ → ℕ → List ℕ → Read ℕ
within least most low high text =
    number least most text >>= (λ p. if nat_le low p.0 && nat_le p.0 high then Some p else None)

-- A fraction of a second of at least and at most so many digits, in microseconds. Filled up with
-- zeros to nine digits it counts nanoseconds.
unfoldable pub fraction : ℕ → ℕ → List ℕ → Read ℕ
fraction least most text = if_enough least (digits most 0 0 text) (λ value count. value * 10 ^ (9 - count) / 1000)
