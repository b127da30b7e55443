-- Events one by one.
use Rattle.std.specs.Prelude.{◌≡◌, ℕ, List, ◌∷◌, Option, reverse}
use Rattle.ix_pikevm.specs.Code.{Spans, ended}
use Rattle.ix_pikevm.specs.declared.cells.Event.{Event}
use Rattle.ix_pikevm.specs.declared.cells.Event.TheVariants.{Began, Ended}

abbrev pub replay_one : Event → Spans → Spans
replay_one (Began place) s = record { began = place ∷ s.began; groups = s.groups }
replay_one (Ended number place) s = ended number place s.groups s.began

abbrev pub spans : List ℕ → List (Option (ℕ × ℕ)) → Spans
spans began groups = record { began = reverse began; groups = groups }

-- the group that began last is the last of the list
abbrev pub Applies : Event → List ℕ → List (Option (ℕ × ℕ)) → List ℕ → List (Option (ℕ × ℕ)) → Type 0
Applies event began groups began1 groups1 = spans began1 groups1 ≡ replay_one event (spans began groups)
