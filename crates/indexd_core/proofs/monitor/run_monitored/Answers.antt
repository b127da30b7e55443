use Rattle.std.proofs.Common.{◌≡◌, List, refl, sym, subst, inl, inr, ◌∙◌, le_refl, le_trans}
use Rattle.std.specs.Prelude.{Option}
use Rattle.ix_fs.specs.declared.trees.TreeFile.{TreeFile}
use Rattle.ix_disk.proofs.Runs.{rose_later}
use Rattle.indexd_settings.specs.Inputs.{HasInputFault, StopsMonitor}
use Rattle.indexd_settings.specs.declared.inputs.MonitorStop.{MonitorStop}
use Rattle.indexd_core.specs.Locked.{IsLockedOut}
use Rattle.indexd_core.specs.Monitors.{MonitorComes}
use Rattle.indexd_run.specs.Opened.{course}
use Rattle.indexd_core.specs.Sides.{side}
use Rattle.indexd_core.specs.Stored.{unread, locked_out, ran}
use Rattle.indexd_core.specs.Texts.{status_text, Said}
use Rattle.indexd_core.specs.declared.status.Status.{Status}
use Rattle.indexd_core.specs.declared.status.Status.TheVariants as statuses
use Rattle.indexd_core.proofs.BlamedLemmas.{names_from, fills_from}
use Rattle.indexd_core.proofs.LockedLemmas.{left_alone, comes_from, told_on, none_from_start, short_from, out_no, out_disk, out_used}
use Rattle.indexd_core.proofs.LockedLemmas.{out_ends, unread_ends}
use Rattle.indexd_core.proofs.MonitorLemmas.{fault_apart, fault_ends, misjudged_or}
use Rattle.indexd_core.proofs.StoredLemmas.{apart, unread_at}
use Rattle.indexd_core.proofs.monitor.run_monitored.Goals as goal

pub returns-in-None : goal.returns-in-None
returns-in-None g c =
    let did = c.monitor_with.ensures in
    let alone = c.lock_out.ensures.alone in
    record {
      monitored = λ input heard deaf left. inr (ran c.in-Ok.found.config c.in-Ok.ensures.of_files (
        c.in-Ok.found.inputs,
        c.in-Ok.ensures.inputs,
        comes_from alone c.in-Ok.found.config _ _ _ (subst (λ (all : Option (List TreeFile)). MonitorComes c.monitor_with.result g.D.Disk
            (course c.in-Ok.found.config (g.C.Clock.ahead c.args.clock.now) (g.C.Clock.ahead c.monitor_with.new.clock) c.lock_out.new.disk
            c.monitor_with.new.disk) all c.in-Ok.found.inputs c.args.close
            (side (g.W.Sink.faults c.args.output.now) (g.W.Sink.given c.args.output.now))
            (side (g.W.Sink.faults c.monitor_with.new.output) (g.W.Sink.given c.monitor_with.new.output))) c.read_monitored.ensures.same
            did.comes),
      ));
      short = short_from alone c.monitor_with.result c.monitor_with.new.disk did.short;
      output = did.output;
      input = λ is. rose_later (g.T.Tree.faults c.args.tree.now) (g.T.Tree.faults c.read_monitored.new.tree)
          (g.T.Tree.faults c.monitor_with.new.tree) c.read_monitored.ensures.later (did.input is);
      written_later = did.written_later;
      told = λ told. did.told (told_on alone told);
      disk_later = le_trans c.lock_out.ensures.later did.disk_later;
      disk = λ is. rose_later (g.D.Disk.faults c.args.disk.now) (g.D.Disk.faults c.lock_out.new.disk)
          (g.D.Disk.faults c.monitor_with.new.disk) c.lock_out.ensures.later (did.disk is);
      undamaged = λ is. none_from_start alone (did.undamaged is);
      blamed = λ is. names_from alone c.monitor_with.new.disk _ _ (did.blamed is);
      full = λ is. fills_from alone (did.full is);
      usage = did.usage;
      listener = did.listener;
      in_use = λ is. absurd (did.in_use is);
      used = λ known. absurd (c.lock_out.ensures.given c.in-None.is known);
      same = did.same ∙ c.read_monitored.ensures.same;
      tree_later = le_trans c.read_monitored.ensures.later did.tree_later;
      missing_later = le_trans c.read_monitored.ensures.later_missing did.missing_later;
    }

pub returns-in-Some : goal.returns-in-Some
returns-in-Some g c =
    let said = c.say_out.ensures in
    let out = subst (λ (s : Status). IsLockedOut s g.D.Disk c.args.disk.now c.lock_out.new.disk) (sym said.status) c.in-Some.ensures.out in
    let no = λ (at : Status). out_no g.D.Disk c.args.disk.now c.lock_out.new.disk c.say_out.result at out in
    record {
      monitored = λ input heard deaf left. inr (locked_out c.in-Ok.found.config c.in-Ok.ensures.of_files (
        refl,
        out,
        record {
          config = c.in-Ok.found.config;
          given = c.in-Ok.ensures.of_files;
          inputs = c.in-Ok.found.inputs;
          are = c.in-Ok.ensures.inputs;
        },
      ) (subst (λ (s : Status). Said (status_text s) (side (g.W.Sink.faults c.args.output.now) (g.W.Sink.given c.args.output.now))
          (side (g.W.Sink.faults c.say_out.new.output) (g.W.Sink.given c.say_out.new.output))) (sym said.status) said.said));
      short = λ ok. inr (inl c.lock_out.ensures.alone);
      output = λ is. absurd (no statuses.Output refl is);
      input = λ is. absurd (no statuses.Input refl is);
      written_later = said.later;
      told = λ told. told_on c.lock_out.ensures.alone told;
      disk_later = c.lock_out.ensures.later;
      disk = λ is. out_disk g.D.Disk c.args.disk.now c.lock_out.new.disk c.say_out.result out is;
      undamaged = λ is. absurd (no statuses.Damaged refl is);
      blamed = λ is. absurd (no statuses.Damaged refl is);
      full = λ is. absurd (no statuses.Full refl is);
      usage = λ is. no statuses.Usage refl is;
      listener = λ is. no statuses.ListenerFault refl is;
      in_use = λ is. out_used g.D.Disk c.args.disk.now c.lock_out.new.disk c.say_out.result out is;
      used = λ known. out_ends g.D.Disk c.args.disk.now c.lock_out.new.disk c.say_out.result out known;
      same = c.read_monitored.ensures.same;
      tree_later = c.read_monitored.ensures.later;
      missing_later = c.read_monitored.ensures.later_missing;
    }

pub returns-in-Err-Settings : goal.returns-in-Err-Settings
returns-in-Err-Settings g c =
    let wrote =
    c.say_unread.ensures.said (g.T.Tree.files c.args.tree.now) (g.T.Tree.faults c.args.tree.now) (g.T.Tree.faults c.read_monitored.new.tree)
    (subst (λ (m : MonitorStop). StopsMonitor m (g.T.Tree.faults c.args.tree.now) (g.T.Tree.faults c.read_monitored.new.tree)
    (g.T.Tree.files c.args.tree.now)) c.in-Err-Settings.field-0-is c.in-Err-Settings.ensures.stopped) in
    let at = λ (s : Status).
    unread_at c.say_unread.result s (g.T.Tree.files c.args.tree.now) (g.T.Tree.faults c.args.tree.now)
    (g.T.Tree.faults c.read_monitored.new.tree)
    (side (g.W.Sink.faults c.args.output.now) (g.W.Sink.given c.args.output.now))
    (side (g.W.Sink.faults c.say_unread.new.output) (g.W.Sink.given c.say_unread.new.output)) wrote in
    record {
      monitored = λ input heard deaf left. inr (unread (refl, refl) wrote);
      short = λ ok. inr (inl (left_alone g.D.Disk c.args.disk.now));
      output = λ is. absurd (at statuses.Output is);
      input = λ is. (at statuses.Input is).0;
      written_later = c.say_unread.ensures.later;
      told = λ told. told;
      disk_later = le_refl _;
      disk = λ is. absurd (at statuses.DiskFault is);
      undamaged = λ is. absurd (at statuses.Damaged is);
      blamed = λ is. absurd (at statuses.Damaged is);
      full = λ is. absurd (at statuses.Full is);
      usage = λ is. at statuses.Usage is;
      listener = λ is. at statuses.ListenerFault is;
      in_use = λ is. absurd (at statuses.InUse is);
      used = λ known. unread_ends g.D.Disk c.args.disk.now c.say_unread.result (g.T.Tree.files c.args.tree.now)
          (g.T.Tree.faults c.args.tree.now) (g.T.Tree.faults c.read_monitored.new.tree) _ _ wrote;
      same = c.read_monitored.ensures.same;
      tree_later = c.read_monitored.ensures.later;
      missing_later = c.read_monitored.ensures.later_missing;
    }

pub returns-in-Err-Inputs : goal.returns-in-Err-Inputs
returns-in-Err-Inputs g c =
    let said = c.say_fault.ensures.said in
    let fault = c.in-Err-Inputs.fault in
    let output = side (g.W.Sink.faults c.args.output.now) (g.W.Sink.given c.args.output.now) in
    let output' = side (g.W.Sink.faults c.say_fault.new.output) (g.W.Sink.given c.say_fault.new.output) in
    let first : HasInputFault (g.T.Tree.files c.args.tree.now) fault = subst (λ (m : MonitorStop). StopsMonitor m
    (g.T.Tree.faults c.args.tree.now) (g.T.Tree.faults c.read_monitored.new.tree) (g.T.Tree.files c.args.tree.now))
    c.in-Err-Inputs.field-0-is c.in-Err-Inputs.ensures.stopped in
    let no = λ (at : Status) (not : statuses.Configuration ≡ at → ⊥) (also : statuses.Memory ≡ at → ⊥). fault_apart fault c.say_fault.result at output output' not also said in
    record {
      monitored = λ input heard deaf left. misjudged_or g.D.Disk _ _ _ fault _ refl refl first said;
      short = λ ok. inr (inl (left_alone g.D.Disk c.args.disk.now));
      output = λ is. absurd (no statuses.Output (apart _ _ refl) (apart _ _ refl) is);
      input = λ is. absurd (no statuses.Input (apart _ _ refl) (apart _ _ refl) is);
      written_later = c.say_fault.ensures.later;
      told = λ told. told;
      disk_later = le_refl _;
      disk = λ is. absurd (no statuses.DiskFault (apart _ _ refl) (apart _ _ refl) is);
      undamaged = λ is. absurd (no statuses.Damaged (apart _ _ refl) (apart _ _ refl) is);
      blamed = λ is. absurd (no statuses.Damaged (apart _ _ refl) (apart _ _ refl) is);
      full = λ is. absurd (no statuses.Full (apart _ _ refl) (apart _ _ refl) is);
      usage = λ is. no statuses.Usage (apart _ _ refl) (apart _ _ refl) is;
      listener = λ is. no statuses.ListenerFault (apart _ _ refl) (apart _ _ refl) is;
      in_use = λ is. absurd (no statuses.InUse (apart _ _ refl) (apart _ _ refl) is);
      used = λ known. fault_ends g.D.Disk c.args.disk.now fault c.say_fault.result output output' said;
      same = c.read_monitored.ensures.same;
      tree_later = c.read_monitored.ensures.later;
      missing_later = c.read_monitored.ensures.later_missing;
    }
