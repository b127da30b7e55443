use Rattle.std.proofs.lemmas.Result.{IfOk-weaker, IfErr-weaker}
use Rattle.indexd_settings.proofs.ValueLemmas.{values-stop}
use Rattle.indexd_settings.proofs.GivenLemmas.{is_config}
use Rattle.indexd_settings.proofs.reading.read_config.Goals as goal

pub returns-clause-sound : goal.returns-clause-sound
returns-clause-sound g c =
    IfOk-weaker c.config_of.result _ _
    (λ config given. is_config c.kept_is_config.ensures c.read_names_are_short.ensures (g.T.Tree.files c.args.tree.now) c.in_ok-found.found
    config c.in_ok-found.ensures.ok given)
    c.config_of.ensures.given

pub returns-clause-of_files : goal.returns-clause-of_files
returns-clause-of_files g c =
    IfOk-weaker c.config_of.result _ _
    (λ config given. record { found = c.in_ok-found.found; merged = c.in_ok-found.ensures.ok; given = given })
    c.config_of.ensures.given

pub returns-clause-stopped : goal.returns-clause-stopped
returns-clause-stopped g c =
    IfErr-weaker c.config_of.result _ _
    (λ stop refused. values-stop (g.T.Tree.files c.args.tree.now) c.in_ok-found.found stop
    (g.T.Tree.faults c.args.tree.now) (g.T.Tree.faults c.read.new.tree) c.in_ok-found.ensures.ok refused)
    c.config_of.ensures.stopped
