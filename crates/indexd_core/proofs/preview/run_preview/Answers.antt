use Rattle.indexd_core.specs.Runs.{ran}
use Rattle.indexd_core.proofs.preview.run_preview.Goals as goal

pub returns-in-Ok-clause-previews : goal.returns-in-Ok-clause-previews
returns-in-Ok-clause-previews g c = ran c.in-Ok.prepared c.in-Ok.ensures.ok c.preview_input.ensures.previews
