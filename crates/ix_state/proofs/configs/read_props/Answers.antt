use Rattle.std.proofs.Common.{◌≡◌}
use Rattle.ix_state.specs.declared.faults.ConfigFault.TheVariants.{Unsound}
use Rattle.ix_state.proofs.Refusals.{read_or_refused}
use Rattle.ix_state.proofs.configs.read_props.Goals as goal

pub returns-in-Err-clause-unsound : goal.returns-in-Err-clause-unsound
returns-in-Err-clause-unsound c = λ e loaded are.
    let unsound : c.fault_of.result ≡ Unsound = cc in
    read_or_refused c.args.files.now.transforms c.args.files.now.zones c.args.files.now.props loaded c.in-Err.fault
    (c.fault_of.ensures unsound) are
    c.in-Err.ensures.err
