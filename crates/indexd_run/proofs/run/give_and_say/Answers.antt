use Rattle.std.proofs.Common.{rules, ◌≡◌, ℕ, List, length, refl, subst, w64}
use Rattle.std.specs.Prelude.{Err}
use Rattle.std.proofs.lemmas.Int.{to_z-of_z}
use mir.Val.{SFits}
use Rattle.ix_life.specs.declared.views.View.{View}
use Rattle.ix_model.specs.Shown.{view}
use Rattle.ix_model.specs.Step.{state_after}
use Rattle.ix_model.specs.declared.commands.TimedCommand.{TimedCommand}
use Rattle.ix_run.specs.Giving.{given_all}
use Rattle.indexd_run.specs.Tasks.{orders_in, IsText}
use Rattle.indexd_run.specs.declared.stop.Stop.TheVariants as stops
use Rattle.indexd_run.specs.declared.task.Task.{Task}
use Rattle.indexd_run.proofs.Causes.{named, why_unsaid}
use Rattle.indexd_run.proofs.Tasks.{on_ok_by, at_ok, if_err_by, at_err, said, unsaid_unread}
use Rattle.indexd_run.proofs.Undamaged.{unsaid_undamaged}
use Rattle.indexd_run.proofs.run.give_and_say.Goals as goal

-- the text of what is seen, and of how many buckets were moved
same_text : (task : Task) (text : List ℕ) {now later : View} {count all : ℕ} → now ≡ later → count ≡ all → IsText task now count text →
    IsText task later all text
same_text task text {later = later} {count = count} is_later is_all is_text =
    subst (λ (n : ℕ). IsText task later n text) is_all (subst (λ (v : View). IsText task v count text) is_later is_text)

pub returns-in-Ok-clause-ends : goal.returns-in-Ok-clause-ends
returns-in-Ok-clause-ends g c = λ choose h base chooser taken hold.
    let fits : SFits w64 c.args.moment = search rules in
    let left = simp to_z-of_z at (c.in-Ok.ensures.ends choose h base chooser taken hold) in
    said g.D.Disk _ c.args.store.now.run g.M.StoreMemory.holds choose h base c.give_task.new.store c.args.disk.now c.give_task.new.disk
    c.in-Ok.count c.say.result (orders_in c.args.task c.args.moment)
    c.args.task c.view.result.now c.say.ensures.stopped left

pub returns-in-Ok-clause-printed : goal.returns-in-Ok-clause-printed
returns-in-Ok-clause-printed g c = on_ok_by c.say.result _ (λ done is. λ choose h base chooser taken hold.
    let fits : SFits w64 c.args.moment = search rules in
    let left = simp to_z-of_z at (c.in-Ok.ensures.ends choose h base chooser taken hold) in
    let moved = simp to_z-of_z at (c.in-Ok.ensures.moved choose h base chooser taken hold) in
    let written = at_ok c.say.result done _ is c.say.ensures.written in
    let seen = subst (λ (orders : List TimedCommand). c.view.result.now ≡ view (state_after choose (given_all choose h orders)))
    left.allowed
    (c.view.ensures choose (given_all choose h left.orders) base (length (given_all choose h left.orders)) left.all.hold.old
    left.all.hold.staged) in
    record {
      text = written.0;
      is_text = same_text c.args.task written.0 seen moved written.1;
      written = written.2;
    })

pub returns-in-Ok-clause-fine : goal.returns-in-Ok-clause-fine
returns-in-Ok-clause-fine g c = on_ok_by c.say.result _ (λ done is. λ choose h base chooser taken hold.
    let fits : SFits w64 c.args.moment = search rules in
    simp to_z-of_z at (c.in-Ok.ensures.fine c.requires.other choose h base chooser taken hold))

pub returns-in-Ok-clause-begun : goal.returns-in-Ok-clause-begun
returns-in-Ok-clause-begun g c = λ is choose h base chooser taken hold.
    let fits : SFits w64 c.args.moment = search rules in
    let left = simp to_z-of_z at (c.in-Ok.ensures.ends choose h base chooser taken hold) in
    let moved = simp to_z-of_z at (c.in-Ok.ensures.moved choose h base chooser taken hold) in
    let written = c.say.ensures.begun is in
    let seen = subst (λ (orders : List TimedCommand). c.view.result.now ≡ view (state_after choose (given_all choose h orders)))
    left.allowed
    (c.view.ensures choose (given_all choose h left.orders) base (length (given_all choose h left.orders)) left.all.hold.old
    left.all.hold.staged) in
    record {
      text = written.0;
      is_text = same_text c.args.task written.0 seen moved written.1;
      written = written.2;
    }

pub returns-in-Ok-clause-why : goal.returns-in-Ok-clause-why
returns-in-Ok-clause-why g c = if_err_by c.say.result _ (λ stop is. λ choose h base chooser taken hold.
    let fits : SFits w64 c.args.moment = search rules in
    let left = simp to_z-of_z at (c.in-Ok.ensures.ends choose h base chooser taken hold) in
    let fine = simp to_z-of_z at (c.in-Ok.ensures.fine c.requires.other choose h base chooser taken hold) in
    let seen = subst (λ (orders : List TimedCommand). c.view.result.now ≡ view (state_after choose (given_all choose h orders)))
    left.allowed
    (c.view.ensures choose (given_all choose h left.orders) base (length (given_all choose h left.orders)) left.all.hold.old
    left.all.hold.staged) in
    why_unsaid choose h c.args.task c.args.moment c.view.result.now stop
    (named choose h c.args.task c.args.moment c.view.result.now fine seen) (at_err c.say.result stop _ is c.say.ensures.stopped))

pub returns-in-Ok-clause-unread : goal.returns-in-Ok-clause-unread
returns-in-Ok-clause-unread g c = if_err_by c.say.result _
    (λ stop is. unsaid_unread c.args.task c.view.result.now stop (at_err c.say.result stop _ is c.say.ensures.stopped))

pub returns-in-Err-clause-why : goal.returns-in-Err-clause-why
returns-in-Err-clause-why g c = λ choose h base chooser taken hold.
    let fits : SFits w64 c.args.moment = search rules in
    simp to_z-of_z at (c.in-Err.ensures.why choose h base chooser taken hold)

pub returns-in-Ok-clause-undamaged : goal.returns-in-Ok-clause-undamaged
returns-in-Ok-clause-undamaged g c = λ file at is choose h base chooser taken hold image seen.
    unsaid_undamaged c.args.task c.view.result.now file at (at_err c.say.result (stops.Damaged file at) _ is c.say.ensures.stopped)

pub returns-in-Err-clause-undamaged : goal.returns-in-Err-clause-undamaged
returns-in-Err-clause-undamaged g c = λ file at is.
    let was : c.give_task.result ≡ Err (stops.Damaged file at) = cc (is, c.in-Err.is) in
    c.give_task.ensures.undamaged file at was

pub returns-in-Ok-clause-short : goal.returns-in-Ok-clause-short
returns-in-Ok-clause-short g c = λ ok. c.in-Ok.ensures.short refl

pub returns-in-Ok-clause-placed : goal.returns-in-Ok-clause-placed
returns-in-Ok-clause-placed g c = λ file at is. absurd
    (unsaid_undamaged c.args.task c.view.result.now file at (at_err c.say.result (stops.Damaged file at) _ is c.say.ensures.stopped))

pub returns-in-Err-clause-placed : goal.returns-in-Err-clause-placed
returns-in-Err-clause-placed g c = λ file at is.
    let was : c.give_task.result ≡ Err (stops.Damaged file at) = cc (is, c.in-Err.is) in
    c.give_task.ensures.placed file at was
