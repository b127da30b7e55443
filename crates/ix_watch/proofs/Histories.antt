-- Histories with commands, each with the Tick that it may bring.
use Rattle.std.proofs.Common.{◌≡◌, List, [], ◌∷◌, ◌++◌, sym, ◌∙◌, refl, append_assoc}
use Rattle.std.proofs.lemmas.List.{append-nil}
use Rattle.ix_model.specs.Given.{Chooser}
use Rattle.ix_model.specs.Judged.{adds}
use Rattle.ix_model.specs.Step.{state_after}
use Rattle.ix_model.specs.declared.commands.TimedCommand.{TimedCommand}
use Rattle.ix_watch.specs.Passes.{with_all}

-- more commands behind others
pub with_join : (choose : Chooser) (h a b : List TimedCommand) → with_all choose h (a ++ b) ≡ with_all choose (with_all choose h a) b
with_join choose h [] b = refl
with_join choose h (o ∷ a) b = with_join choose (h ++ adds (state_after choose h) o) a b

-- what they add stands behind the history
abbrev pub more_of : Chooser → List TimedCommand → List TimedCommand → List TimedCommand
more_of choose h [] = []
more_of choose h (o ∷ orders) = adds (state_after choose h) o ++ more_of choose (h ++ adds (state_after choose h) o) orders

pub with_more : (choose : Chooser) (h orders : List TimedCommand) → with_all choose h orders ≡ h ++ more_of choose h orders
with_more choose h [] = sym (append-nil h)
with_more choose h (o ∷ orders) =
    with_more choose (h ++ adds (state_after choose h) o) orders
    ∙ append_assoc h (adds (state_after choose h) o) (more_of choose (h ++ adds (state_after choose h) o) orders)
