use Rattle.std.proofs.Common.{refl, inl, inr, le_refl}
use Rattle.indexd_core.specs.Sides.{side}
use Rattle.indexd_core.specs.Stored.{unread, ran}
use Rattle.indexd_core.specs.declared.status.Status.{Status}
use Rattle.indexd_core.specs.declared.status.Status.TheVariants as statuses
use Rattle.indexd_core.proofs.LockedLemmas.{left_alone, unread_ends}
use Rattle.indexd_core.proofs.StoredLemmas.{unread_at}
use Rattle.indexd_core.proofs.serve.serve.Goals as goal

pub returns-in-Ok : goal.returns-in-Ok
returns-in-Ok g c =
    let did = c.serve_with.ensures in
    record {
      serves = λ input. ran c.in-Ok.config c.in-Ok.ensures.of_files did.comes;
      short = did.short;
      output = did.output;
      input = λ is. absurd (did.input is);
      written_later = did.written_later;
      told = did.told;
      disk_later = did.disk_later;
      heard_later = did.heard_later;
      disk = did.disk;
      listener = did.listener;
      out = did.out;
      undamaged = did.undamaged;
      blamed = did.blamed;
      full = did.full;
      usage = did.usage;
      in_use = did.in_use;
      used = did.used;
      same = c.read_config.ensures.same;
      tree_later = c.read_config.ensures.later;
      missing_later = c.read_config.ensures.later_missing;
    }

pub returns-in-Err : goal.returns-in-Err
returns-in-Err g c =
    let wrote =
    c.say_unread.ensures.said (g.T.Tree.files c.args.tree.now) (g.T.Tree.faults c.args.tree.now) (g.T.Tree.faults c.read_config.new.tree)
    c.in-Err.ensures.stopped in
    let at = λ (s : Status).
    unread_at c.say_unread.result s (g.T.Tree.files c.args.tree.now) (g.T.Tree.faults c.args.tree.now)
    (g.T.Tree.faults c.read_config.new.tree)
    (side (g.W.Sink.faults c.args.output.now) (g.W.Sink.given c.args.output.now))
    (side (g.W.Sink.faults c.say_unread.new.output) (g.W.Sink.given c.say_unread.new.output)) wrote in
    record {
      serves = λ input. unread (refl, refl, refl) wrote;
      short = λ ok. inr (inl (left_alone g.D.Disk c.args.disk.now));
      output = λ is. absurd (at statuses.Output is);
      input = λ is. (at statuses.Input is).0;
      written_later = c.say_unread.ensures.later;
      told = λ told. told;
      disk_later = le_refl _;
      heard_later = le_refl _;
      disk = λ is. absurd (at statuses.DiskFault is);
      listener = λ is. absurd (at statuses.ListenerFault is);
      out = refl;
      undamaged = λ is. absurd (at statuses.Damaged is);
      blamed = λ is. absurd (at statuses.Damaged is);
      full = λ is. absurd (at statuses.Full is);
      usage = λ is. at statuses.Usage is;
      in_use = λ is. absurd (at statuses.InUse is);
      used = λ known. unread_ends g.D.Disk c.args.disk.now c.say_unread.result (g.T.Tree.files c.args.tree.now)
          (g.T.Tree.faults c.args.tree.now) (g.T.Tree.faults c.read_config.new.tree) _ _ wrote;
      same = c.read_config.ensures.same;
      tree_later = c.read_config.ensures.later;
      missing_later = c.read_config.ensures.later_missing;
    }
