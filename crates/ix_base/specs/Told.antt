-- What an object of the outside tells of its content, where it knows it.
use Rattle.std.specs.Prelude.{◌≡◌, ℕ, List, ◌++◌, Option, None, Some}

-- What is told has gone through the step. An object that tells goes on telling, and one that
-- doesn't never begins to.
abbrev pub Told : {A : Type 0} → (A → A → Type 0) → Option A → Option A → Type 0
Told step None None = Unit {0}
Told step None (Some new) = ⊥
Told step (Some old) None = ⊥
Told step (Some old) (Some new) = step old new

-- the bytes were taken from the front of what was left
abbrev pub Took : List ℕ → List ℕ → List ℕ → Type 0
Took taken old new = old ≡ taken ++ new

-- the first bytes of the whole
pub record IsFrontOf (part whole : List ℕ) : Type 0 where
  pub rest : List ℕ
  pub whole_is : whole ≡ part ++ rest

-- the bytes stand behind what stood there
abbrev pub Wrote : List ℕ → List ℕ → List ℕ → Type 0
Wrote bytes old new = new ≡ old ++ bytes

-- a front of the bytes, perhaps none or all of them, stands behind what stood there
pub record Began (bytes old new : List ℕ) : Type 0 where
  pub part : List ℕ
  pub is_front : IsFrontOf part bytes
  pub written : new ≡ old ++ part

-- What is written stands behind what stood there, where that is told.
pub record HasWritten (bytes : List ℕ) (old new : Option (List ℕ)) : Type 0 where
  pub told : Told (Wrote bytes) old new

-- A front of it does.
pub record HasBegun (bytes : List ℕ) (old new : Option (List ℕ)) : Type 0 where
  pub told : Told (Began bytes) old new
