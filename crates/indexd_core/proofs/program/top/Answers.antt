use Rattle.std.proofs.Common.{ap}
use Rattle.indexd_core.specs.Sides.{Side}
use Rattle.indexd_core.proofs.CarriedLemmas.{by_preview, by_store, by_btool, by_feed, by_serve, by_monitor, by_task, by_selftest}
use Rattle.indexd_core.proofs.program.top.Goals as goal

pub returns : goal.returns
returns g c =
    let did = c.answer.ensures.carried in
    record {
      usage = did.usage;
      refused = did.refused;
      preview = λ stated asks. by_preview stated did asks;
      btool = λ name file asks named. (by_btool name did asks).0 file named;
      task = λ is. let task = by_task did is in (task.0, task.1, task.2);
      stored = λ stated asks. by_store stated did asks;
      fed = λ asks. by_feed did asks;
      served = λ port requests asks. (by_serve port requests did asks).0;
      monitored = λ close asks. (by_monitor close did asks).0;
      tested = λ seed count asks. (by_selftest seed count did asks).0;
      in_use = did.cause.in_use;
      used = did.used;
      short = did.short;
      untouched = did.untouched;
      unasked = λ is. let same = (by_task did is).3 in (ap (λ (s : Side). s.told) same, ap (λ (s : Side). s.faults) same);
      unread = λ name asks.
          let same = by_btool name did asks in
          (ap (λ (s : Side). s.told) same.1, ap (λ (s : Side). s.faults) same.1, same.2);
      unfed = λ port requests asks.
          let same = (by_serve port requests did asks).1 in
          (ap (λ (s : Side). s.told) same, ap (λ (s : Side). s.faults) same);
      unmonitored = λ close asks.
          let same = (by_monitor close did asks).1 in
          (ap (λ (s : Side). s.told) same, ap (λ (s : Side). s.faults) same);
      only_writes = λ seed count asks. (by_selftest seed count did asks).1;
      out = did.keeps.out;
      unheard = c.answer.ensures.unheard;
      unchanged = did.keeps.files;
      input = did.cause.input;
      output = did.cause.output;
      disk = did.cause.disk;
      listener = did.cause.listener;
      undamaged = did.cause.undamaged;
      blamed = did.cause.blamed;
      full = did.cause.full;
      told = did.keeps.told;
      disk_later = did.keeps.disk_later;
      heard_later = did.keeps.heard_later;
      read_later = did.keeps.read_later;
      written_later = did.keeps.written_later;
      tree_later = did.keeps.tree_later;
      missing_later = did.keeps.missing_later;
    }
