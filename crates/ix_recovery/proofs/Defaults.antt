-- The index that channels have which name none has a name of at most 1,024 bytes.
use Rattle.std.proofs.Common.{◌≡◌, ◌⊎◌, inl, inr, ◌≤◌, List, [], length, refl, sym, subst}
use Rattle.ix_items.specs.declared.items.Kept.{Kept}
use Rattle.ix_state.proofs.Brief as kept
use Rattle.ix_state.specs.Configs.{IsConfig}
use Rattle.ix_model.specs.Given.{default_index}
use Rattle.ix_model.specs.declared.commands.Config.{Config}

-- the settings in force are the built-in ones, or those of a Configure
abbrev pub IsForce : List Kept → Type 0
IsForce force = (force ≡ []) ⊎ ((config : Config) × IsConfig config × (config.kept ≡ force))

pub default_brief : (force : List Kept) → IsForce force → length (default_index force) ≤ 1024
default_brief force (inl none) = subst (λ (l : List Kept). length (default_index l) ≤ 1024) (sym none) (kept.default_brief [] tt refl)
default_brief force (inr found) =
    subst (λ (l : List Kept). length (default_index l) ≤ 1024) found.2
    (kept.default_brief found.0.kept found.1.stanzas found.1.limits.sound)
