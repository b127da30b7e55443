use Rattle.std.proofs.Common.{◌∙◌, ap}
use Rattle.std.specs.Prelude.{Err}
use Rattle.ix_state.specs.declared.faults.ConfigFault.{ConfigFault}
use Rattle.indexd_selftest.proofs.Configured.{is_sound}
use Rattle.indexd_selftest.proofs.summary.settings.Goals as goal

pub returns-in-Err-Unsound-clause-sound : goal.returns-in-Err-Unsound-clause-sound
returns-in-Err-Unsound-clause-sound c = λ is. is_sound c.in_ok-kept.kept c.in_ok-kept.ensures
    (c.config_of.ensures.unsound (c.in-Err-Unsound.is ∙ ap (λ (f : ConfigFault). Err f) c.in-Err-Unsound.field-0-is))
