-- What stands at a gate of a log.
use Rattle.std.specs.Prelude.{◌≡◌, ◌≢◌, ◌≤◌, ◌<◌, ◌+◌, ℕ, List, ◌∷◌, ◌++◌, length, take}
use Rattle.std.specs.Int.{to_be_bytes, from_be_bytes, w32}
use Rattle.ix_log.specs.declared.head.Head.{Head}
use Rattle.ix_log.specs.declared.head.Head.TheVariants.{End, Body, Cut}

-- What stands at a gate: one that is not open, a block and at least one byte behind it, or an open
-- gate and less than that.
abbrev pub IsHead : Head → List ℕ → Type 0
IsHead End rest = (gate : ℕ) × (tail : List ℕ) × (rest ≡ gate ∷ tail) × (gate ≢ 1)
IsHead (Body len) rest = (tail : List ℕ) × (rest ≡ 1 ∷ to_be_bytes w32 len ++ tail) × (len < length tail)
IsHead Cut rest = (tail : List ℕ) × (rest ≡ 1 ∷ tail) × (length tail ≤ 4 + from_be_bytes w32 (take 4 tail))

-- a body and a byte behind it stand within what is left
abbrev pub IsWithin : Head → ℕ → Type 0
IsWithin End left = Unit {0}
IsWithin (Body len) left = 5 + len < left
IsWithin Cut left = Unit {0}
