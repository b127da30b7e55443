use Rattle.indexd_run.proofs.SameKept.{other_lengths}
use Rattle.indexd_run.proofs.settings.same_kept.Goals as goal

pub returns-then-a-b : goal.returns-then-a-b
returns-then-a-b c = other_lengths c.args.a.now c.args.b.now c.if-a-b.true
