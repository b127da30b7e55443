use Rattle.std.proofs.Common.{rules, ◌≡◌, ℕ, Option, Some, None, Ok, Err, drop, refl, ap, ◌∙◌, inl, w64}
use Rattle.std.proofs.lemmas.Int.{to_z-of_z}
use mir.Val.{SFits}
use Rattle.ix_model.specs.Step.{state_after}
use Rattle.ix_store.specs.Counting.{numbers}
use Rattle.ix_model.specs.declared.commands.Command.{Command}
use Rattle.indexd_run.specs.Ends.{Only, AtMost}
use Rattle.indexd_run.specs.Stops.{loses, loses_in}
use Rattle.indexd_run.specs.Tasks.{command_in, orders_by, orders_in, Gave, moved_by}
use Rattle.indexd_run.specs.declared.stop.Stop.{Stop}
use Rattle.indexd_run.specs.declared.stop.Stop.TheVariants as stops
use Rattle.ix_commit.proofs.Reading.{anyhow_same}
use Rattle.indexd_run.proofs.Causes.{fine_none, fine_by, why_not}
use Rattle.indexd_run.proofs.Tasks.{none_given, left_weaker, ends_weaker, partly, allowed_one}
use Rattle.indexd_run.proofs.run.give_command.Goals as goal

pub returns-in-Ok-None-clause-ends : goal.returns-in-Ok-None-clause-ends
returns-in-Ok-None-clause-ends g c = λ choose h base chooser taken hold.
    let is : ◌≡◌ {A = Option Command} None (command_in c.args.task) = cc (c.in-Ok-None.ensures, c.in-Ok-None.field-0-is) in
    none_given g.D.Disk _ g.M.StoreMemory.holds choose h base c.args.store.now c.args.disk.now
    (Gave {T = ℕ} (Ok 0) (orders_in c.args.task c.args.moment))
    (ap (λ (o : Option Command). orders_by o c.args.moment) is) hold

pub returns-in-Err-clause-ends : goal.returns-in-Err-clause-ends
returns-in-Err-clause-ends g c = λ choose h base chooser taken hold.
    none_given g.D.Disk _ g.M.StoreMemory.holds choose h base c.args.store.now c.args.disk.now
    (Gave {T = ℕ} (Err stops.Memory) (orders_in c.args.task c.args.moment)) (inl refl) hold

pub returns-in-Ok-clause-ends : goal.returns-in-Ok-clause-ends
returns-in-Ok-clause-ends g c = λ choose h base chooser taken hold.
    let fits : SFits w64 c.args.moment = search rules in
    let is : ◌≡◌ {A = Option Command} (Some c.in-Ok-Some.command) (command_in c.args.task) =
    cc (c.in-Ok-Some.ensures, c.in-Ok-Some.field-0-is) in
    let left = simp to_z-of_z at (c.in-Ok.ensures.left choose h base chooser taken hold) in
    left_weaker g.D.Disk _ c.args.store.now.run g.M.StoreMemory.holds choose h base c.run_last.new.store c.args.disk.now c.run_last.new.disk
    (Only (record { command = c.in-Ok-Some.command; moment = c.args.moment }))
    (Gave {T = ℕ} (Ok c.in-Ok.answer.moved) (orders_in c.args.task c.args.moment))
    (λ orders one. one ∙ ap (λ (o : Option Command). orders_by o c.args.moment) is) left

pub returns-in-Ok-clause-moved : goal.returns-in-Ok-clause-moved
returns-in-Ok-clause-moved g c = λ choose h base chooser taken hold.
    let fits : SFits w64 c.args.moment = search rules in
    let is : ◌≡◌ {A = Option Command} (Some c.in-Ok-Some.command) (command_in c.args.task) =
    cc (c.in-Ok-Some.ensures, c.in-Ok-Some.field-0-is) in
    let answers = simp to_z-of_z at (c.in-Ok.ensures.answers choose h base chooser taken hold) in
    answers.moved_are ∙ ap (λ (o : Option Command). moved_by (state_after choose h) o c.args.moment) is

pub returns-in-Err-run_last-clause-ends : goal.returns-in-Err-run_last-clause-ends
returns-in-Err-run_last-clause-ends g c = λ choose h base chooser taken hold.
    let fits : SFits w64 c.args.moment = search rules in
    let is : ◌≡◌ {A = Option Command} (Some c.in-Ok-Some.command) (command_in c.args.task) =
    cc (c.in-Ok-Some.ensures, c.in-Ok-Some.field-0-is) in
    let ends = simp to_z-of_z at (c.in-Err-run_last.ensures.stopped choose h base chooser taken hold) in
    ends_weaker g.D.Disk _ c.args.store.now.run g.M.StoreMemory.holds choose h base c.run_last.new.store c.args.disk.now c.run_last.new.disk
    (loses c.in-Err-run_last.stop)
    (AtMost (record { command = c.in-Ok-Some.command; moment = c.args.moment }))
    (Gave {T = ℕ} (Err c.in-Err-run_last.stop) (orders_in c.args.task c.args.moment))
    (λ orders. partly c.in-Err-run_last.stop (record { command = c.in-Ok-Some.command; moment = c.args.moment })
    (orders_in c.args.task c.args.moment) orders c.in-Err-run_last.ensures.quiet
    (ap (λ (o : Option Command). orders_by o c.args.moment) is)) ends

pub returns-in-Ok-None-clause-fine : goal.returns-in-Ok-None-clause-fine
returns-in-Ok-None-clause-fine g c = λ not choose h base chooser taken hold.
    let is : ◌≡◌ {A = Option Command} (command_in c.args.task) None = cc (c.in-Ok-None.ensures, c.in-Ok-None.field-0-is) in
    fine_none choose h c.args.task c.args.moment not is

pub returns-in-Ok-clause-fine : goal.returns-in-Ok-clause-fine
returns-in-Ok-clause-fine g c = λ not choose h base chooser taken hold.
    let fits : SFits w64 c.args.moment = search rules in
    let is : ◌≡◌ {A = Option Command} (command_in c.args.task) (Some c.in-Ok-Some.command) =
    cc (c.in-Ok-Some.ensures, c.in-Ok-Some.field-0-is) in
    let left = simp to_z-of_z at (c.in-Ok.ensures.left choose h base chooser taken hold) in
    fine_by choose h c.args.task c.in-Ok-Some.command c.args.moment (numbers (drop base h)) is
    (allowed_one choose base h (record { command = c.in-Ok-Some.command; moment = c.args.moment }) left.orders left.allowed
    left.all.allowed)

pub returns-in-Err-clause-why : goal.returns-in-Err-clause-why
returns-in-Err-clause-why g c = λ choose h base chooser taken hold. tt

pub returns-in-Err-run_last-clause-why : goal.returns-in-Err-run_last-clause-why
returns-in-Err-run_last-clause-why g c = λ choose h base chooser taken hold.
    let fits : SFits w64 c.args.moment = search rules in
    let is : ◌≡◌ {A = Option Command} (command_in c.args.task) (Some c.in-Ok-Some.command) =
    cc (c.in-Ok-Some.ensures, c.in-Ok-Some.field-0-is) in
    let caused = simp to_z-of_z at (c.in-Err-run_last.ensures.caused choose h base chooser taken hold) in
    why_not choose h c.args.task c.in-Ok-Some.command c.args.moment is c.args.store.now.drawn c.in-Err-run_last.stop caused

pub returns-in-Err-run_last-clause-undamaged : goal.returns-in-Err-run_last-clause-undamaged
returns-in-Err-run_last-clause-undamaged g c = λ file at is.
    let was : c.run_last.result ≡ Err (stops.Damaged file at) = cc (is, c.in-Err-run_last.is) in
    c.run_last.ensures.undamaged file at was

-- ---- the clauses that speak of the disk, of the output and of the input

pub returns-in-Ok-None-clause-told : goal.returns-in-Ok-None-clause-told
returns-in-Ok-None-clause-told g c = anyhow_same (g.D.Disk.seen c.args.disk.now) (g.D.Disk.seen c.args.disk.now) refl

pub returns-in-Err-clause-told : goal.returns-in-Err-clause-told
returns-in-Err-clause-told g c = anyhow_same (g.D.Disk.seen c.args.disk.now) (g.D.Disk.seen c.args.disk.now) refl

pub returns-in-Err-run_last-clause-cause : goal.returns-in-Err-run_last-clause-cause
returns-in-Err-run_last-clause-cause g c = λ is.
    let at : c.in-Err-run_last.stop ≡ stops.Disk = cc (is) in
    c.run_last.ensures.cause (c.in-Err-run_last.is ∙ ap (λ (s : Stop). Err s) at)

pub returns-in-Err-run_last-clause-rest : goal.returns-in-Err-run_last-clause-rest
returns-in-Err-run_last-clause-rest g c = λ kept. c.run_last.ensures.rest (ap loses_in c.in-Err-run_last.is ∙ kept) c.requires.rest

pub returns-in-Ok-clause-rest : goal.returns-in-Ok-clause-rest
returns-in-Ok-clause-rest g c = λ kept. c.in-Ok.ensures.rest refl c.requires.rest

pub returns-in-Err-run_last-clause-placed : goal.returns-in-Err-run_last-clause-placed
returns-in-Err-run_last-clause-placed g c = λ file at is.
    let was : c.run_last.result ≡ Err (stops.Damaged file at) = cc (is, c.in-Err-run_last.is) in
    c.run_last.ensures.placed file at was
