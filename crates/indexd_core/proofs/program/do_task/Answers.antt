use Rattle.std.proofs.Common.{inr, le_refl, refl}
use Rattle.indexd_core.proofs.CarriedLemmas.{task_comes, task_is_built, task_lacks}
use Rattle.indexd_core.proofs.StoredLemmas.{task_is_stored, yes_no}
use Rattle.indexd_core.proofs.program.do_task.Goals as goal

pub returns : goal.returns
returns g c = λ input heard deaf left.
    let did = c.run_stored.ensures in
    record {
      usage = λ is. absurd (did.usage is);
      refused = λ no. absurd (yes_no _ (task_is_built c.args.task) no);
      comes = task_comes g.D.Disk _ _ _ c.args.task (did.tasked input heard deaf left) refl;
      untouched = λ no. absurd (yes_no _ (task_is_stored c.args.task) no);
      used = λ known stored. did.used known;
      short = did.short;
      keeps = record {
        files = did.same;
        out = refl;
        told = did.told;
        disk_later = did.disk_later;
        heard_later = le_refl deaf;
        read_later = le_refl input.faults;
        written_later = did.written_later;
        tree_later = did.tree_later;
        missing_later = did.missing_later;
      };
      cause = record {
        input = λ is. inr (did.input is);
        output = did.output;
        disk = did.disk;
        listener = λ is. absurd (did.listener is);
        undamaged = did.undamaged;
        blamed = did.blamed;
        full = λ is. task_lacks g.D.Disk c.args.disk.now c.args.task (did.full is);
        in_use = did.in_use;
      };
    }
