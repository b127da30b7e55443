-- The bytes that wait, with their moments.
use Rattle.std.specs.Prelude.{◌≡◌, List, length}
use Rattle.std.specs.List.{zip}
use Rattle.ix_base.specs.Stream.{Dated}
use Rattle.ix_lines.specs.Moments.{moments_of}
use Rattle.ix_lines.specs.declared.pending.Pending.{Pending}

-- each byte has a moment
abbrev pub IsPaired : Pending → Type 0
IsPaired pending = length pending.bytes ≡ length (moments_of pending.runs.items)

abbrev pub dated_in : Pending → List Dated
dated_in pending = zip pending.bytes (moments_of pending.runs.items)
