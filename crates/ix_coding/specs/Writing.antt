-- What a call that was begun leaves of the bytes before it.
use Rattle.std.specs.Prelude.{ℕ, List}
use Rattle.ix_base.specs.Told.{IsFrontOf}

-- What began the old bytes begins the new ones: so these are the old ones and perhaps more.
abbrev pub Extends : List ℕ → List ℕ → Type 0
Extends old new = (front : List ℕ) → IsFrontOf front old → IsFrontOf front new
