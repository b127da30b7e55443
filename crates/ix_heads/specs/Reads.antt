-- What calls that only read leave of a link.
use Rattle.std.specs.Prelude.{◌≡◌, ◌≤◌, ℕ, List, [], ◌∷◌, Option, Some, None, Result, Ok, Err}
use Rattle.ix_base.specs.declared.faults.Failed.{Failed}
use Rattle.ix_net.specs.Links.{Standing, LinkStep}

-- Nothing is written on it, and no count falls.
pub record OnlyReads (text text' : Option (List ℕ)) (standing standing' : Standing) (faults faults' : ℕ) : Type 0 where
  pub given : text' ≡ text
  pub goes : LinkStep standing standing'
  pub later : faults ≤ faults'

-- the next byte was taken; the end takes nothing, and neither does a failure
abbrev pub TakesByte : Result (Option ℕ) Failed → List ℕ → List ℕ → Type 0
TakesByte (Ok (Some b)) old new = old ≡ b ∷ new
TakesByte (Ok None) old new = (old ≡ []) × (new ≡ [])
TakesByte (Err fault) old new = new ≡ old
