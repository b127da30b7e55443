-- How far a watched file is read in a pass.
use Rattle.std.specs.Prelude.{ℕ, Bool, ◌==◌, ◌&&◌, nat_eq, nat_le, if◌then◌else◌, List, Option, Some, None}
use Rattle.std.specs.List.{starts_with}
use Rattle.ix_base.specs.declared.events.Spot.{Spot}
use Rattle.ix_monitor.specs.declared.steps.Seen.{Seen}
use Rattle.ix_monitor.specs.declared.steps.Step.{Step}
use Rattle.ix_monitor.specs.declared.steps.Step.TheVariants.{Skip, From, Again}

-- the file goes on from where it was read to
abbrev pub goes_on : Seen → Spot → Bool
goes_on file spot = starts_with nat_eq file.head spot.head && nat_le spot.offset file.size

-- the bytes behind a place are read, where there are any
abbrev pub behind : ℕ → ℕ → Step
behind offset size = if offset == size then Skip else From offset

abbrev pub plan : Seen → Option Spot → Step
plan file None = behind 0 file.size
plan file (Some spot) = if goes_on file spot then behind spot.offset file.size else Again
