use Rattle.std.proofs.Common.{sym, ap}
use Rattle.ix_props.specs.Choice.{step_of}
use Rattle.ix_props.proofs.ranks.Nearness.step.Goals as goal

pub returns-in-Host : goal.returns-in-Host
returns-in-Host c = sym (ap step_of c.in-Host.is)
