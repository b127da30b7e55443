-- What an attempt comes to.
use Rattle.std.specs.Prelude.{◌≡◌, ℕ, List, [], Option, Some, None, slice_get}
use Rattle.ix_pattern.specs.Ways.{Text, Way, ends_at, edge}
use Rattle.ix_pattern.specs.Rows.{Rows}
use Rattle.ix_pikevm.specs.Code.{Mean, Meaning}
use Rattle.ix_pikevm.specs.declared.code.Instr.{Instr}
use Rattle.ix_pikevm.specs.declared.run.Outcome.{Outcome}
use Rattle.ix_pikevm.specs.declared.run.Outcome.TheVariants.{End, No, More}

abbrev pub head_of : Outcome → Option Way
head_of (End place groups) = Some (ends_at (record { place = place; groups = groups.items }))
head_of No = None
head_of More = Some edge

-- it is the head of the ways of the instruction
abbrev pub Shows : (Rows → Type 0) → List Instr → Text → ℕ → ℕ → List (Option (ℕ × ℕ)) → Outcome → Type 0
Shows known code text start place blank o =
    (rows : Rows) (mean : Mean) (rank : ℕ → ℕ) → Meaning code rows text blank mean rank → known rows →
    slice_get (mean start [] place) 0 ≡ head_of o
