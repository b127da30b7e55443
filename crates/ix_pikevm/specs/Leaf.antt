-- A test that takes no byte.
use Rattle.std.specs.Prelude.{ℕ, List, [], ◌∷◌, Option}
use Rattle.ix_pattern.specs.Ways.{Text, Reached, Way, ends_at, edge}
use Rattle.ix_pikevm.specs.declared.input.Input.{Input}
use Rattle.ix_pikevm.specs.declared.leaf.Leaf.{Leaf}
use Rattle.ix_pikevm.specs.declared.leaf.Leaf.TheVariants.{Here, Never, Edge}

abbrev pub leaf_ways : Leaf → Reached → List Way
leaf_ways Here r = ends_at r ∷ []
leaf_ways Never r = []
leaf_ways Edge r = edge ∷ []

abbrev pub text_of : Input → Text
text_of input = record { before = input.before; bytes = input.bytes.now; unfinished = input.unfinished }

abbrev pub at : ℕ → List (Option (ℕ × ℕ)) → Reached
at place groups = record { place = place; groups = groups }
