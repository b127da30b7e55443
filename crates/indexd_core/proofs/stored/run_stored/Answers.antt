use Rattle.std.proofs.Common.{refl, sym, subst, inl, inr, le_refl, le_trans}
use Rattle.ix_disk.proofs.Runs.{rose_later}
use Rattle.indexd_core.specs.Locked.{IsLockedOut}
use Rattle.indexd_core.specs.Sides.{side}
use Rattle.indexd_core.specs.Stored.{unread, locked_out, ran}
use Rattle.indexd_core.specs.Texts.{status_text, Said}
use Rattle.indexd_core.specs.declared.status.Status.{Status}
use Rattle.indexd_core.specs.declared.status.Status.TheVariants as statuses
use Rattle.indexd_core.proofs.BlamedLemmas.{names_from, fills_from}
use Rattle.indexd_core.proofs.LockedLemmas.{left_alone, comes_from, told_on, none_from_start, short_from, out_no, out_disk, out_used}
use Rattle.indexd_core.proofs.LockedLemmas.{out_ends, unread_ends}
use Rattle.indexd_core.proofs.StoredLemmas.{unread_at}
use Rattle.indexd_core.proofs.stored.run_stored.Goals as goal

pub returns-in-None : goal.returns-in-None
returns-in-None g c =
    let did = c.run_with.ensures in
    let alone = c.lock_out.ensures.alone in
    record {
      tasked = λ input heard deaf left. ran c.in-Ok.config c.in-Ok.ensures.of_files (comes_from alone c.in-Ok.config _ _ _ did.comes);
      short = short_from alone c.run_with.result c.run_with.new.disk did.short;
      output = did.output;
      input = λ is. absurd (did.input is);
      written_later = did.written_later;
      told = λ told. did.told (told_on alone told);
      disk_later = le_trans c.lock_out.ensures.later did.disk_later;
      disk = λ is. rose_later (g.D.Disk.faults c.args.disk.now) (g.D.Disk.faults c.lock_out.new.disk) (g.D.Disk.faults c.run_with.new.disk)
          c.lock_out.ensures.later (did.disk is);
      undamaged = λ is. none_from_start alone (did.undamaged is);
      blamed = λ is. names_from alone c.run_with.new.disk _ _ (did.blamed is);
      full = λ is. fills_from alone (did.full is);
      usage = did.usage;
      listener = did.listener;
      in_use = λ is. absurd (did.in_use is);
      used = λ known. absurd (c.lock_out.ensures.given c.in-None.is known);
      same = c.read_config.ensures.same;
      tree_later = c.read_config.ensures.later;
      missing_later = c.read_config.ensures.later_missing;
    }

pub returns-in-Some : goal.returns-in-Some
returns-in-Some g c =
    let said = c.say_locked_out.ensures in
    let out = subst (λ (s : Status). IsLockedOut s g.D.Disk c.args.disk.now c.lock_out.new.disk) (sym said.status) c.in-Some.ensures.out in
    let no = λ (at : Status). out_no g.D.Disk c.args.disk.now c.lock_out.new.disk c.say_locked_out.result at out in
    record {
      tasked = λ input heard deaf left. locked_out c.in-Ok.config c.in-Ok.ensures.of_files (
        refl,
        out,
      ) (subst (λ (s : Status). Said (status_text s) (side (g.W.Sink.faults c.args.output.now) (g.W.Sink.given c.args.output.now))
          (side (g.W.Sink.faults c.say_locked_out.new.output) (g.W.Sink.given c.say_locked_out.new.output))) (sym said.status) said.said);
      short = λ ok. inr (inl c.lock_out.ensures.alone);
      output = λ is. absurd (no statuses.Output refl is);
      input = λ is. absurd (no statuses.Input refl is);
      written_later = said.later;
      told = λ told. told_on c.lock_out.ensures.alone told;
      disk_later = c.lock_out.ensures.later;
      disk = λ is. out_disk g.D.Disk c.args.disk.now c.lock_out.new.disk c.say_locked_out.result out is;
      undamaged = λ is. absurd (no statuses.Damaged refl is);
      blamed = λ is. absurd (no statuses.Damaged refl is);
      full = λ is. absurd (no statuses.Full refl is);
      usage = λ is. no statuses.Usage refl is;
      listener = λ is. no statuses.ListenerFault refl is;
      in_use = λ is. out_used g.D.Disk c.args.disk.now c.lock_out.new.disk c.say_locked_out.result out is;
      used = λ known. out_ends g.D.Disk c.args.disk.now c.lock_out.new.disk c.say_locked_out.result out known;
      same = c.read_config.ensures.same;
      tree_later = c.read_config.ensures.later;
      missing_later = c.read_config.ensures.later_missing;
    }

pub returns-in-Err : goal.returns-in-Err
returns-in-Err g c =
    let wrote =
    c.say_unread.ensures.said (g.T.Tree.files c.args.tree.now) (g.T.Tree.faults c.args.tree.now) (g.T.Tree.faults c.read_config.new.tree)
    c.in-Err.ensures.stopped in
    let at = λ (s : Status).
    unread_at c.say_unread.result s (g.T.Tree.files c.args.tree.now) (g.T.Tree.faults c.args.tree.now)
    (g.T.Tree.faults c.read_config.new.tree)
    (side (g.W.Sink.faults c.args.output.now) (g.W.Sink.given c.args.output.now))
    (side (g.W.Sink.faults c.say_unread.new.output) (g.W.Sink.given c.say_unread.new.output)) wrote in
    record {
      tasked = λ input heard deaf left. unread (refl, refl) wrote;
      short = λ ok. inr (inl (left_alone g.D.Disk c.args.disk.now));
      output = λ is. absurd (at statuses.Output is);
      input = λ is. (at statuses.Input is).0;
      written_later = c.say_unread.ensures.later;
      told = λ told. told;
      disk_later = le_refl _;
      disk = λ is. absurd (at statuses.DiskFault is);
      undamaged = λ is. absurd (at statuses.Damaged is);
      blamed = λ is. absurd (at statuses.Damaged is);
      full = λ is. absurd (at statuses.Full is);
      usage = λ is. at statuses.Usage is;
      listener = λ is. at statuses.ListenerFault is;
      in_use = λ is. absurd (at statuses.InUse is);
      used = λ known. unread_ends g.D.Disk c.args.disk.now c.say_unread.result (g.T.Tree.files c.args.tree.now)
          (g.T.Tree.faults c.args.tree.now) (g.T.Tree.faults c.read_config.new.tree) _ _ wrote;
      same = c.read_config.ensures.same;
      tree_later = c.read_config.ensures.later;
      missing_later = c.read_config.ensures.later_missing;
    }
