use Rattle.std.proofs.Common.{refl}
use Rattle.ix_channels.proofs.beginning.opened.Goals as goal

pub returns-in-Ok : goal.returns-in-Ok
returns-in-Ok c = record { name_is = refl; meta_is = refl; started = c.in-Ok.ensures }
