use Rattle.indexd_settings.proofs.ValueLemmas.{stops-at}
use Rattle.indexd_settings.proofs.configuration.read_props.Goals as goal

pub returns-in-Err-clause-stopped : goal.returns-in-Err-clause-stopped
returns-in-Err-clause-stopped c =
    stops-at c.args.found.now c.in-Err.fault c.stop_of.result c.stop_of.ensures.memory c.stop_of.ensures.refused c.in-Err.ensures.err
