-- Bytes of a watched file, read in blocks.
use Rattle.std.specs.Prelude.{◌≡◌, ◌≤◌, ◌<◌, ◌-◌, ℕ, List, length, min, take, drop, Option, Some, None}

-- the bytes of a file from a place on were read into the front of a buffer, until this was full or
-- the file ended
pub record FillsFrom (bytes : List ℕ) (at n : ℕ) (buf : List ℕ) : Type 0 where
  pub read : take n buf ≡ take n (drop at bytes)
  pub there : n ≤ length bytes - at
  pub whole : n < length buf → length bytes - at ≤ n

abbrev pub FillsAt : Option (List ℕ) → ℕ → ℕ → List ℕ → Type 0
FillsAt None at n buf = ⊥
FillsAt (Some bytes) at n buf = FillsFrom bytes at n buf

-- so far so many bytes were read, where any were there is a file
pub record HasBegun (bytes : List ℕ) (at n : ℕ) (buf : List ℕ) : Type 0 where
  pub read : take n buf ≡ take n (drop at bytes)
  pub there : n ≤ length bytes - at

abbrev pub HasFilled : Option (List ℕ) → ℕ → ℕ → List ℕ → Type 0
HasFilled None at n buf = n ≡ 0
HasFilled (Some bytes) at n buf = HasBegun bytes at n buf

-- A piece of a file that has these bytes was read into the front of a buffer: as many as have room
-- there, up to the size and to the end.
pub record IsPiece (bytes : List ℕ) (at size n : ℕ) (buf : List ℕ) : Type 0 where
  pub read : take n buf ≡ take n (drop at bytes)
  pub many : n ≡ min (length buf) (min (size - at) (length bytes - at))
