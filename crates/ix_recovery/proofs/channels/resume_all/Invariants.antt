use Rattle.std.proofs.Common.{take}
use Rattle.std.specs.List.{AllZip}
use Rattle.ix_recovery.specs.Recalled.{IsResumed}
use Rattle.ix_recovery.proofs.channels.resume_all.Given as goal

abbrev pub invariant-loop-one : goal.invariant-loop-one
invariant-loop-one l = AllZip (IsResumed l.props) (take l.one-index l.carried) l.channels.items
