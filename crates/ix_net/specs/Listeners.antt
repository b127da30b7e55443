-- The connections of a listener.
use Rattle.std.specs.Prelude.{◌≡◌, ◌-◌, ◌^◌, ◌||◌, ℕ, Bool, nat_lt, nat_le, List, [], ◌∷◌, ◌++◌, Option, IfSome}
use Rattle.ix_net.specs.Links.{Standing}

-- the count has risen, or stands at the last value of a counter of 64 bits
abbrev pub has_risen : ℕ → ℕ → Bool
has_risen before now = nat_lt before now || nat_le (2 ^ 64 - 1) now

-- a connection that was handed back
pub record Handed : Type 0 where
  -- what it held when it was accepted, where it knew that
  pub held : Option (List ℕ)
  -- what was written on it, where it knew that
  pub written : Option (List ℕ)
  -- whether its count rose while it was out
  pub rose : Bool

-- what is told of a connection that is handed back
abbrev pub handed_back : Standing → Option (List ℕ) → ℕ → Handed
handed_back standing given faults = record { held = standing.held; written = given; rose = has_risen standing.start faults }

-- the connection begins as it is: nothing is written on it yet
pub record Begins (standing : Standing) (left given : Option (List ℕ)) (faults : ℕ) : Type 0 where
  pub held : standing.held ≡ left
  pub start : standing.start ≡ faults
  pub written : IfSome given (λ bytes. bytes ≡ [])

-- the first one that waits was taken
abbrev pub TakesFirst : Option (List ℕ) → List (Option (List ℕ)) → List (Option (List ℕ)) → Type 0
TakesFirst first old new = old ≡ first ∷ new

-- one more was handed back
abbrev pub Adds : Handed → List Handed → List Handed → Type 0
Adds handed old new = new ≡ old ++ handed ∷ []
