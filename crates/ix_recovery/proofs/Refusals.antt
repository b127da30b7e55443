-- What a refusal tells of its cause.
use Rattle.std.proofs.Common.{◌≡◌, refl}
use Rattle.ix_state.specs.declared.faults.ConfigFault.{ConfigFault}
use Rattle.ix_state.specs.declared.faults.ConfigFault.TheVariants as configuring
use Rattle.ix_store.specs.declared.faulty_item.FaultyItem.{FaultyItem}
use Rattle.ix_store.specs.declared.faulty_item.FaultyItem.TheVariants as subjects
use Rattle.ix_recovery.specs.declared.faults.RecoveryFault.TheVariants as faults
use Rattle.ix_recovery.specs.Faults.{by_config}

pub bad_config : (fault : ConfigFault) (subject : FaultyItem) → faults.Bad subject ≡ by_config fault → (fault ≡ configuring.Unsound)
    × (subject ≡ subjects.Settings)
bad_config configuring.Unsound subject is = (refl, cc)
bad_config configuring.NoMemory subject is = absurd cc
