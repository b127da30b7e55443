-- A value is refused, unless there is no room to say so.
use Rattle.std.proofs.Common.{◌≡◌, inl, inr, sym, subst}
use Rattle.std.specs.Prelude.{◌⊎◌}
use Rattle.ix_props.specs.declared.faults.SettingFault.{SettingFault}
use Rattle.ix_props.specs.declared.faults.SettingFault.TheVariants.{NoMemory}

-- what holds of the fault that is meant, and of want of memory
pub refuses : (Holds : SettingFault → Type 0) (told meant : SettingFault) → (told ≡ meant) ⊎ (told ≡ NoMemory) → Holds meant →
    Holds NoMemory → Holds told
refuses Holds told meant (inl is) holds none = subst Holds (sym is) holds
refuses Holds told meant (inr is) holds none = subst Holds (sym is) none
