use Rattle.indexd_settings.proofs.InputLemmas.{inputs-stop}
use Rattle.indexd_settings.proofs.inputs.load_inputs.Goals as goal

pub returns-in-Err-clause-stopped : goal.returns-in-Err-clause-stopped
returns-in-Err-clause-stopped c =
    inputs-stop c.args.found.now.inputs c.args.limits.now c.in-Err.fault c.stop_of.result c.stop_of.ensures.memory c.stop_of.ensures.refused
    c.in-Err.ensures.err
