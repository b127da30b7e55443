use Rattle.std.proofs.Common.{rules, ◌≡◌, ℤ, List, [], false, sym, ap, ◌∙◌, subst, w64, to_z, of_z}
use Rattle.std.proofs.lemmas.Int.{to_z-of_z}
use mir.Val.{SFits}
use Rattle.ix_base.specs.Told.{HasWritten, HasBegun}
use Rattle.ix_model.specs.declared.commands.TimedCommand.{TimedCommand}
use Rattle.indexd_run.specs.Stops.{loses_in}
use Rattle.indexd_run.specs.Tasks.{orders_in, Gave, IsUnseen, IsWhy, IsFine, HasSaid, HasPrinted, is_export}
use Rattle.indexd_run.specs.declared.task.Task.{Task}
use Rattle.indexd_run.proofs.Causes.{why_unexported}
use Rattle.indexd_run.proofs.Tasks.{ends_weaker, gave_none, not_export, printed_as, says_output, says_export, on_ok_by, at_ok, if_err_by}
use Rattle.indexd_run.proofs.Tasks.{at_err, at_stop, output_of}
use Rattle.indexd_run.proofs.run.carry_out.Goals as goal

pub returns-in-Export-clause-ends : goal.returns-in-Export-clause-ends
returns-in-Export-clause-ends g c = λ choose h base chooser taken hold.
    ends_weaker g.D.Disk _ c.args.store.now.run g.M.StoreMemory.holds choose h base c.export.new.store c.args.disk.now c.export.new.disk
    (loses_in c.export.result) (λ (orders : List TimedCommand). orders ≡ [])
    (Gave c.export.result (orders_in c.args.task c.args.moment))
    (λ orders. gave_none c.export.result (orders_in c.args.task c.args.moment) orders
    (ap (λ (task : Task). orders_in task c.args.moment) c.in-Export.is))
    (c.export.ensures.ends choose h base chooser taken hold)

pub returns-in-Export-clause-printed : goal.returns-in-Export-clause-printed
returns-in-Export-clause-printed g c = on_ok_by c.export.result _ (λ done is. λ choose h base chooser taken hold.
    let lines = at_ok c.export.result done _ is c.export.ensures.lines in
    subst (λ (task : Task). HasPrinted HasWritten g.D.Disk choose h task c.args.moment c.export.new.disk (g.W.Sink.given c.args.output.now)
    (g.W.Sink.given c.export.new.output)) (sym c.in-Export.is) (lines choose h base chooser taken hold))

pub returns-in-Export-clause-fine : goal.returns-in-Export-clause-fine
returns-in-Export-clause-fine g c = on_ok_by c.export.result _ (λ done is. λ choose h base chooser taken hold.
    let fine = at_ok c.export.result done _ is c.export.ensures.fine in
    subst (λ (task : Task). IsFine choose h task c.args.moment) (sym c.in-Export.is) (fine choose h base chooser taken hold))

pub returns-in-Export-clause-begun : goal.returns-in-Export-clause-begun
returns-in-Export-clause-begun g c = if_err_by c.export.result _ (λ stop is. λ says choose h base chooser taken hold.
    let lines = at_stop c.export.result stop _ is c.export.ensures.begun in
    subst (λ (task : Task). HasPrinted HasBegun g.D.Disk choose h task c.args.moment c.export.new.disk (g.W.Sink.given c.args.output.now)
    (g.W.Sink.given c.export.new.output)) (sym c.in-Export.is) (lines choose h base chooser taken hold))

pub returns-in-Export-clause-quiet : goal.returns-in-Export-clause-quiet
returns-in-Export-clause-quiet g c = if_err_by c.export.result _
    (λ stop is. λ silent. absurd (cc (silent, says_export c.args.task stop c.in-Export.index c.in-Export.range c.in-Export.is)))

pub returns-in-Export-clause-why : goal.returns-in-Export-clause-why
returns-in-Export-clause-why g c = if_err_by c.export.result _ (λ stop is. λ choose h base chooser taken hold.
    let why = at_err c.export.result stop _ is c.export.ensures.why in
    why_unexported choose h c.in-Export.index.now c.args.task c.args.moment stop
    (λ unseen. subst (λ (task : Task). IsUnseen choose h task) (sym c.in-Export.is) unseen) (why choose h base chooser taken hold))

pub give_and_say-requires-clause-other : goal.give_and_say-requires-clause-other
give_and_say-requires-clause-other g c = not_export c.args.task c.in_default.not-Export

pub returns-in_default : goal.returns-in_default
returns-in_default g c =
    let fits : SFits w64 c.args.moment = search rules in
    let moment_is : to_z w64 (of_z w64 c.args.moment) ≡ c.args.moment = simp to_z-of_z in
    let other : is_export c.args.task ≡ false = not_export c.args.task c.in_default.not-Export in
    record {
      ends = λ choose h base chooser taken hold. simp to_z-of_z at (c.give_and_say.ensures.ends choose h base chooser taken hold);
      printed = on_ok_by c.give_and_say.result _ (λ done is. λ choose h base chooser taken hold.
          let said = at_ok c.give_and_say.result done _ is c.give_and_say.ensures.printed in
          printed_as HasWritten g.D.Disk choose h c.args.task c.args.moment c.give_and_say.new.disk (g.W.Sink.given c.args.output.now)
          (g.W.Sink.given c.give_and_say.new.output) other
          (subst (λ (moment : ℤ). HasSaid HasWritten choose h c.args.task moment (g.W.Sink.given c.args.output.now)
          (g.W.Sink.given c.give_and_say.new.output)) moment_is (said choose h base chooser taken hold)));
      fine = on_ok_by c.give_and_say.result _ (λ done is. λ choose h base chooser taken hold.
          let fine = at_ok c.give_and_say.result done _ is c.give_and_say.ensures.fine in
          subst (λ (moment : ℤ). IsFine choose h c.args.task moment) moment_is (fine choose h base chooser taken hold));
      begun = if_err_by c.give_and_say.result _ (λ stop is. λ says choose h base chooser taken hold.
          let output = sym (says_output c.args.task stop other) ∙ says in
          printed_as HasBegun g.D.Disk choose h c.args.task c.args.moment c.give_and_say.new.disk (g.W.Sink.given c.args.output.now)
          (g.W.Sink.given c.give_and_say.new.output) other
          (subst (λ (moment : ℤ). HasSaid HasBegun choose h c.args.task moment (g.W.Sink.given c.args.output.now)
          (g.W.Sink.given c.give_and_say.new.output)) moment_is
          (c.give_and_say.ensures.begun (output_of c.give_and_say.result stop is output) choose h base chooser taken hold)));
      quiet = if_err_by c.give_and_say.result _ (λ stop is. λ silent.
          at_err c.give_and_say.result stop _ is c.give_and_say.ensures.quiet (sym (says_output c.args.task stop other) ∙ silent));
      why = if_err_by c.give_and_say.result _ (λ stop is. λ choose h base chooser taken hold.
          let why = at_err c.give_and_say.result stop _ is c.give_and_say.ensures.why in
          subst (λ (moment : ℤ). IsWhy choose h c.args.task moment stop) moment_is (why choose h base chooser taken hold));
      short = c.give_and_say.ensures.short;
      unread = c.give_and_say.ensures.unread;
      undamaged = c.give_and_say.ensures.undamaged;
      placed = c.give_and_say.ensures.placed;
      told = c.give_and_say.ensures.told;
      later = c.give_and_say.ensures.later;
      cause = c.give_and_say.ensures.cause;
      grown = c.give_and_say.ensures.grown;
      output = c.give_and_say.ensures.output;
    }

pub returns-in-Export-clause-undamaged : goal.returns-in-Export-clause-undamaged
returns-in-Export-clause-undamaged g c = c.export.ensures.undamaged

pub returns-in-Export-clause-placed : goal.returns-in-Export-clause-placed
returns-in-Export-clause-placed g c = c.export.ensures.placed
