-- The bytes of a field. Each value has one spelling, and none is a proper prefix of another.
use Rattle.std.specs.Prelude.{◌≡◌, ℕ, ℤ, ◌<◌, ◌^◌, List, [], ◌∷◌, ◌++◌, length, Bool, true, false, Option, Some, None, IfSome}
use Rattle.std.specs.Int.{w32, w64, to_be_bytes, cast_unsigned}
use Rattle.std.specs.Int.RustNames.{FitsSigned}

-- one byte
unfoldable pub byte : ℕ → List ℕ
byte n = n ∷ []

-- a number of four bytes, and one of eight, the first byte the highest
unfoldable pub four : ℕ → List ℕ
four n = to_be_bytes w32 n

unfoldable pub eight : ℕ → List ℕ
eight n = to_be_bytes w64 n

-- a signed number of eight bytes, in two's complement
unfoldable pub signed : ℤ → List ℕ
signed z = to_be_bytes w64 (cast_unsigned w64 z)

-- a byte 0, or a byte 1 where it is set
unfoldable pub flag : Bool → List ℕ
flag false = byte 0
flag true = byte 1

-- four bytes of length, and the bytes
unfoldable pub string : List ℕ → List ℕ
string bytes = four (length bytes) ++ bytes

-- a byte 0, or a byte 1 and the value
unfoldable pub option : {A : Type 0} → (A → List ℕ) → Option A → List ℕ
option spell None = flag false
option spell (Some x) = flag true ++ spell x

-- ---- what has a spelling

abbrev pub Is8 : ℕ → Type 0
Is8 n = n < 2 ^ 8

abbrev pub Is32 : ℕ → Type 0
Is32 n = n < 2 ^ 32

abbrev pub Is64 : ℕ → Type 0
Is64 n = n < 2 ^ 64

abbrev pub IsSigned64 : ℤ → Type 0
IsSigned64 z = FitsSigned w64 z

-- a string or a list whose length has four bytes
abbrev pub IsShort : {A : Type 0} → List A → Type 0
IsShort list = length list < 2 ^ 32

abbrev pub IsShortOption : Option (List ℕ) → Type 0
IsShortOption o = IfSome o (λ text. IsShort text)

abbrev pub Always : {A : Type 0} → A → Type 0
Always x = Unit {0}

-- Of two spellings with anything behind them that are the same bytes, the values are the same, and
-- so is what follows.
abbrev pub HasOneFront : {A : Type 0} → (A → Type 0) → (A → List ℕ) → Type 0
HasOneFront {A} Fits spell = (a b : A) (x y : List ℕ) → Fits a → Fits b → spell a ++ x ≡ spell b ++ y → (a ≡ b) × (x ≡ y)
