use Rattle.std.proofs.lemmas.Result.{IfErr-weaker}
use Rattle.indexd_settings.proofs.ValueLemmas.{values-stop}
use Rattle.indexd_settings.proofs.configuration.read_configuration.Goals as goal

pub returns-clause-stopped : goal.returns-clause-stopped
returns-clause-stopped g c =
    IfErr-weaker c.configuration.result _ _
    (λ stop refused. values-stop (g.T.Tree.files c.args.tree.now) c.in_ok-found.found stop
    (g.T.Tree.faults c.args.tree.now) (g.T.Tree.faults c.read.new.tree) c.in_ok-found.ensures.ok refused)
    c.configuration.ensures.stopped
