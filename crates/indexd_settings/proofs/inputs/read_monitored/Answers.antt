use Rattle.std.proofs.lemmas.Result.{IfOk-weaker, IfErr-weaker}
use Rattle.indexd_settings.proofs.GivenLemmas.{is_config}
use Rattle.indexd_settings.proofs.InputLemmas.{monitor-stop}
use Rattle.indexd_settings.proofs.inputs.read_monitored.Goals as goal

pub returns-clause-sound : goal.returns-clause-sound
returns-clause-sound g c =
    IfOk-weaker c.monitored_of.result _ _
    (λ read given. is_config c.kept_is_config.ensures c.read_names_are_short.ensures (g.T.Tree.files c.args.tree.now) c.in-Ok.found
    read.config c.in-Ok.ensures.ok given.given)
    c.monitored_of.ensures.given

pub returns-clause-of_files : goal.returns-clause-of_files
returns-clause-of_files g c =
    IfOk-weaker c.monitored_of.result _ _
    (λ read given. record { found = c.in-Ok.found; merged = c.in-Ok.ensures.ok; given = given.given })
    c.monitored_of.ensures.given

pub returns-clause-inputs : goal.returns-clause-inputs
returns-clause-inputs g c =
    IfOk-weaker c.monitored_of.result _ _
    (λ read given. record {
      found = c.in-Ok.found.inputs;
      merged = c.in-Ok.ensures.ok.inputs;
      sound = given.sound;
      are = given.are;
    })
    c.monitored_of.ensures.given

pub returns-clause-stopped : goal.returns-clause-stopped
returns-clause-stopped g c =
    IfErr-weaker c.monitored_of.result _ _
    (λ stop refused. monitor-stop (g.T.Tree.files c.args.tree.now) c.in-Ok.found stop
    (g.T.Tree.faults c.args.tree.now) (g.T.Tree.faults c.read.new.tree) c.in-Ok.ensures.ok refused)
    c.monitored_of.ensures.stopped
