-- A stream of bytes in which each byte has a moment.
use Rattle.std.specs.Prelude.{ℕ, ℤ, List, map, length, replicate}
use Rattle.std.specs.List.{zip}

-- a byte and its moment, in microseconds since 1970
abbrev pub Dated : Type 0
Dated = ℕ × ℤ

abbrev pub bytes_of : List Dated → List ℕ
bytes_of stream = map (λ d. d.0) stream

-- bytes that have one moment
abbrev pub dated : List ℕ → ℤ → List Dated
dated bytes moment = zip bytes (replicate (length bytes) moment)
