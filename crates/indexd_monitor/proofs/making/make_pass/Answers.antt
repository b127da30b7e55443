use Rattle.std.proofs.Common.{◌≡◌, ◌∙◌, List, refl, sym, ap, subst, inl}
use Rattle.std.specs.List.{AllByRecursion}
use Rattle.std.specs.Prelude.{Err, IfSome}
use Rattle.ix_monitor.specs.declared.watched.Watched.{Watched}
use Rattle.ix_fs.specs.declared.trees.TreeFile.{TreeFile}
use Rattle.ix_fs.specs.declared.trees.TreeFault.{TreeFault}
use Rattle.ix_disk.proofs.Runs.{rose_later}
use Rattle.ix_files.specs.Sought.{sought, IsFileOf}
use Rattle.ix_pass.specs.Passing.{MayVisit}
use Rattle.ix_pass.specs.declared.fault.PassFault.{PassFault}
use Rattle.indexd_run.specs.Stops.{is_output}
use Rattle.indexd_run.specs.declared.stop.Stop.TheVariants as stops
use Rattle.indexd_monitor.specs.Monitored.{of_tree, of_pass}
use Rattle.indexd_monitor.proofs.Passed.{all_so, none_found, whole_over, stopped_over}
use Rattle.indexd_monitor.proofs.Stopping.{quiet_tree, disk_tree, damaged_tree, endless_tree, input_tree}
use Rattle.indexd_monitor.proofs.Stopping.{quiet_pass, uncut_pass, disk_pass, damaged_pass, input_pass, endless_pass}
use Rattle.indexd_monitor.proofs.making.make_pass.Goals as goal

-- ---- the files were not found

pub returns-in-Err-clause-ends : goal.returns-in-Err-clause-ends
returns-in-Err-clause-ends g c = λ choose h base chooser taken hold.
    none_found g.D.Disk g.M.StoreMemory.takes _ g.M.StoreMemory.holds choose h base (g.T.Tree.files c.args.tree.now) c.args.watch.inputs.now
    c.args.watch.close (g.C.Clock.ahead c.args.clock.now) c.args.store.now c.args.disk.now c.in-Err.fault c.of_tree.result
    c.of_tree.ensures hold

pub returns-in-Err-clause-quiet : goal.returns-in-Err-clause-quiet
returns-in-Err-clause-quiet g c = ap is_output c.of_tree.ensures ∙ quiet_tree c.in-Err.fault

pub returns-in-Err-clause-undamaged : goal.returns-in-Err-clause-undamaged
returns-in-Err-clause-undamaged g c = λ file at is.
    let stop : of_tree c.in-Err.fault ≡ stops.Damaged file at = cc (is, c.of_tree.ensures) in
    absurd (damaged_tree c.in-Err.fault file at stop)

pub returns-in-Err-clause-placed : goal.returns-in-Err-clause-placed
returns-in-Err-clause-placed g c = λ file at is.
    let stop : of_tree c.in-Err.fault ≡ stops.Damaged file at = cc (is, c.of_tree.ensures) in
    absurd (damaged_tree c.in-Err.fault file at stop)

pub returns-in-Err-clause-cause : goal.returns-in-Err-clause-cause
returns-in-Err-clause-cause g c = λ is.
    let stop : of_tree c.in-Err.fault ≡ stops.Disk = cc (is, c.of_tree.ensures) in
    absurd (disk_tree c.in-Err.fault stop)

pub returns-in-Err-clause-input : goal.returns-in-Err-clause-input
returns-in-Err-clause-input g c = λ is.
    let stop : of_tree c.in-Err.fault ≡ stops.Input = cc (is, c.of_tree.ensures) in
    c.watched_files.ensures.cause.failed (c.in-Err.is
    ∙ ap (λ (f : TreeFault). Err f) (input_tree c.in-Err.fault c.in-Err.ensures.there stop))

pub returns-in-Err-clause-finite : goal.returns-in-Err-clause-finite
returns-in-Err-clause-finite g c = λ is.
    let stop : of_tree c.in-Err.fault ≡ stops.Endless = cc (is, c.of_tree.ensures) in
    endless_tree c.in-Err.fault stop

-- ---- the pass

pub pass-requires-clause-takes : goal.pass-requires-clause-takes
pass-requires-clause-takes g c = all_so (IsFileOf c.args.watch.inputs.now) (MayVisit g.M.StoreMemory.takes) c.requires.files
    c.as_slice.result.now
    (subst (λ (l : List Watched). AllByRecursion (IsFileOf c.args.watch.inputs.now) l) (sym c.as_slice.ensures) c.in-Ok.ensures.own)

pub returns-in-Ok-pass-clause-ends : goal.returns-in-Ok-pass-clause-ends
returns-in-Ok-pass-clause-ends g c = λ choose h base chooser taken hold.
    whole_over g.D.Disk g.M.StoreMemory.is_chooser g.M.StoreMemory.takes _ g.M.StoreMemory.holds choose h base
    (g.T.Tree.files c.args.tree.now) c.args.watch.inputs.now c.args.watch.close c.as_slice.result.now
    (subst (λ (l : List Watched). AllByRecursion (IsFileOf c.args.watch.inputs.now) l) (sym c.as_slice.ensures) c.in-Ok.ensures.own)
    (subst (λ (l : List Watched). IfSome (g.T.Tree.files c.args.tree.now) (λ (all : List TreeFile). l ≡ sought all c.args.watch.inputs.now))
    (sym c.as_slice.ensures) c.in-Ok.ensures.files)
    (g.C.Clock.ahead c.args.clock.now) (g.C.Clock.ahead c.pass.new.clock) c.args.store.now c.pass.new.store c.args.disk.now
    c.pass.new.disk chooser taken hold (g.T.Tree.files c.watched_files.new.tree) c.watched_files.ensures.same c.in-Ok-pass.text
    c.in-Ok-pass.ensures.passed

pub returns-in-Ok-pass-clause-rest : goal.returns-in-Ok-pass-clause-rest
returns-in-Ok-pass-clause-rest g c = λ kept. c.in-Ok-pass.ensures.rest refl c.requires.rest.measured

pub returns-clause-ends : goal.returns-clause-ends
returns-clause-ends g c = λ choose h base chooser taken hold.
    stopped_over g.D.Disk g.M.StoreMemory.is_chooser g.M.StoreMemory.takes _ g.M.StoreMemory.holds choose h base
    (g.T.Tree.files c.args.tree.now) c.args.watch.inputs.now c.args.watch.close c.as_slice.result.now
    (subst (λ (l : List Watched). AllByRecursion (IsFileOf c.args.watch.inputs.now) l) (sym c.as_slice.ensures) c.in-Ok.ensures.own)
    (subst (λ (l : List Watched). IfSome (g.T.Tree.files c.args.tree.now) (λ (all : List TreeFile). l ≡ sought all c.args.watch.inputs.now))
    (sym c.as_slice.ensures) c.in-Ok.ensures.files)
    (g.C.Clock.ahead c.args.clock.now) (g.C.Clock.ahead c.pass.new.clock) c.args.store.now c.pass.new.store c.args.disk.now
    c.pass.new.disk chooser taken hold (g.T.Tree.files c.watched_files.new.tree) c.watched_files.ensures.same c.in-Err-pass.fault
    c.of_pass.result c.of_pass.ensures c.in-Err-pass.ensures.passed

pub returns-clause-rest : goal.returns-clause-rest
returns-clause-rest g c = λ kept.
    c.in-Err-pass.ensures.rest (uncut_pass c.in-Err-pass.fault c.of_pass.result c.of_pass.ensures kept) c.requires.rest.measured

pub returns-clause-quiet : goal.returns-clause-quiet
returns-clause-quiet g c = ap is_output c.of_pass.ensures ∙ quiet_pass c.in-Err-pass.fault

pub returns-clause-undamaged : goal.returns-clause-undamaged
returns-clause-undamaged g c = λ file at is choose h base chooser taken hold.
    let stop : of_pass c.in-Err-pass.fault ≡ stops.Damaged file at = cc (is, c.of_pass.ensures) in
    c.pass.ensures.undamaged file at (c.in-Err-pass.is
    ∙ ap (λ (f : PassFault). Err f) (damaged_pass c.in-Err-pass.fault file at stop)) choose h base _ chooser taken hold

pub returns-clause-placed : goal.returns-clause-placed
returns-clause-placed g c = λ file at is image seen.
    let stop : of_pass c.in-Err-pass.fault ≡ stops.Damaged file at = cc (is, c.of_pass.ensures) in
    inl (c.pass.ensures.placed file at (c.in-Err-pass.is
    ∙ ap (λ (f : PassFault). Err f) (damaged_pass c.in-Err-pass.fault file at stop)) image seen)

pub returns-clause-cause : goal.returns-clause-cause
returns-clause-cause g c = λ is.
    let stop : of_pass c.in-Err-pass.fault ≡ stops.Disk = cc (is, c.of_pass.ensures) in
    c.pass.ensures.cause (c.in-Err-pass.is ∙ ap (λ (f : PassFault). Err f) (disk_pass c.in-Err-pass.fault stop))

pub returns-clause-input : goal.returns-clause-input
returns-clause-input g c = λ is.
    let stop : of_pass c.in-Err-pass.fault ≡ stops.Input = cc (is, c.of_pass.ensures) in
    rose_later (g.T.Tree.faults c.args.tree.now) (g.T.Tree.faults c.watched_files.new.tree) (g.T.Tree.faults c.pass.new.tree)
    c.watched_files.ensures.cause.later
    (c.pass.ensures.failed (c.in-Err-pass.is ∙ ap (λ (f : PassFault). Err f) (input_pass c.in-Err-pass.fault stop)))

pub returns-clause-finite : goal.returns-clause-finite
returns-clause-finite g c = λ is.
    let stop : of_pass c.in-Err-pass.fault ≡ stops.Endless = cc (is, c.of_pass.ensures) in
    endless_pass c.in-Err-pass.fault stop
