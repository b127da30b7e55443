use Rattle.std.proofs.Common.{sym, ap}
use Rattle.ix_apply.specs.Made.{paired}
use Rattle.ix_apply.proofs.making.paired.Goals as goal

pub returns-in-Ok : goal.returns-in-Ok
returns-in-Ok c = sym (ap (paired c.args.first.draft) c.in-Ok.is)
