-- Reading from left to right: a value and the bytes after it, or nothing.
use Rattle.std.specs.Prelude.{◌≡◌, ℕ, ℤ, List, [], ◌∷◌, ◌++◌, length, take, drop, Bool, true, false, Option, Some, None, Result, Ok, Err}
use Rattle.std.specs.Prelude.{nat_lt, ◌==◌, if◌then◌else◌}
use Rattle.std.specs.Int.{Width, w32, w64, byte_len, from_be_bytes, cast_signed}
use Rattle.ix_coding.specs.declared.reading.BadField.{BadField}

infixl 10 ◌>>=◌
abbrev pub ◌>>=◌ : {A B : Type 0} → Option A → (A → Option B) → Option B
(Some x) >>= f = f x
None >>= f = None

-- What a function returned, seen by view, is what reading gives.
abbrev pub Gives : {X Y : Type 0} → (X → Y) → Result X BadField → Option Y → Type 0
Gives view (Ok x) read = read ≡ Some (view x)
Gives view (Err e) read = read ≡ None

abbrev pub number_at : Width → List ℕ → Option (ℕ × List ℕ)
number_at w bytes = if nat_lt (length bytes) (byte_len w) then None else Some (
  from_be_bytes w (take (byte_len w) bytes),
  drop (byte_len w) bytes,
)

unfoldable pub byte_at : List ℕ → Option (ℕ × List ℕ)
byte_at [] = None
byte_at (b ∷ rest) = Some (b, rest)

unfoldable pub four_at : List ℕ → Option (ℕ × List ℕ)
four_at bytes = number_at w32 bytes

unfoldable pub eight_at : List ℕ → Option (ℕ × List ℕ)
eight_at bytes = number_at w64 bytes

unfoldable pub signed_at : List ℕ → Option (ℤ × List ℕ)
signed_at bytes = do
  n ← number_at w64 bytes
  Some (cast_signed w64 n.0, n.1)

unfoldable pub flag_at : List ℕ → Option (Bool × List ℕ)
flag_at bytes = do
  b ← byte_at bytes
  if b.0 == 0 then Some (false, b.1) else if b.0 == 1 then Some (true, b.1) else None

unfoldable pub string_at : List ℕ → Option (List ℕ × List ℕ)
string_at bytes = do
  n ← four_at bytes
  if nat_lt (length n.1) n.0 then None else Some (take n.0 n.1, drop n.0 n.1)

-- a value behind a byte 1, or none behind a byte 0
unfoldable pub option_at : {A : Type 0} → (List ℕ → Option (A × List ℕ)) → List ℕ → Option (Option A × List ℕ)
option_at one bytes = do
  f ← flag_at bytes
  if f.0 then (one f.1 >>= λ x. Some (Some x.0, x.1)) else Some (None, f.1)

-- what is spelled is read back, whatever follows it
abbrev pub ReadsBack : {A : Type 0} → (A → Type 0) → (A → List ℕ) → (List ℕ → Option (A × List ℕ)) → Type 0
ReadsBack {A} Fits spell read = (x : A) (rest : List ℕ) → Fits x → read (spell x ++ rest) ≡ Some (x, rest)
