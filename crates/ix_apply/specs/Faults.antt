-- Why a command is not worked out, by what hinders its parts.
use Rattle.ix_channels.specs.declared.channel_effect.WorkFault.{WorkFault}
use Rattle.ix_channels.specs.declared.channel_effect.WorkFault.TheVariants as works
use Rattle.ix_model.specs.declared.answers.Refusal.{Refusal}
use Rattle.ix_model.specs.declared.answers.Refusal.TheVariants as refusals
use Rattle.ix_effects.specs.declared.catalog_effect.MoveFault.{MoveFault}
use Rattle.ix_effects.specs.declared.catalog_effect.MoveFault.TheVariants as moves
use Rattle.ix_apply.specs.declared.effect.StepFault.{StepFault}
use Rattle.ix_apply.specs.declared.effect.StepFault.TheVariants as faults

abbrev pub by_work : WorkFault → StepFault
by_work works.Full = faults.Full
by_work works.NoMemory = faults.NoMemory

abbrev pub by_move : MoveFault → StepFault
by_move moves.Full = faults.Full
by_move moves.NoMemory = faults.NoMemory

abbrev pub refusal_of : StepFault → Refusal
refusal_of faults.Full = refusals.Full
refusal_of faults.NoMemory = refusals.NoMemory
