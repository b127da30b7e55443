-- What a run asks its clock for.
use Rattle.std.specs.Prelude.{◌≡◌, List, [], ◌∷◌, Option}
use Rattle.ix_base.specs.Clocks.{Moments, Answered}
use Rattle.ix_base.specs.Told.{Told}
use Rattle.ix_model.specs.declared.commands.TimedCommand.{TimedCommand}

-- the clock was asked for the moments of these commands, one after the other, and not otherwise
abbrev pub Asks : List TimedCommand → Option Moments → Option Moments → Type 0
Asks [] ahead ahead' = ahead' ≡ ahead
Asks (order ∷ orders) ahead ahead' = (mid : Option Moments) × Told (Answered order.moment) ahead mid × Asks orders mid ahead'
