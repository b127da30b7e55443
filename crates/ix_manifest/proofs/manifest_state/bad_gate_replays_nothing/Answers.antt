use Rattle.ix_manifest.specs.Root.{Taken}
use Rattle.ix_manifest.proofs.Replays.{bad_gate_none}
use Rattle.ix_manifest.proofs.manifest_state.bad_gate_replays_nothing.Goals as goal

pub returns : goal.returns
returns g c = λ log. bad_gate_none (Taken g.B.ManifestState.fits log)
