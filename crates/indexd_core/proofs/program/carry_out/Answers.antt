use Rattle.std.proofs.Common.{◌∙◌, Bool, ap, inr, le_refl, refl, sym, true≢false, true}
use Rattle.std.specs.Prelude.{Some, is_some}
use Rattle.indexd_cli.specs.Shown.{shown}
use Rattle.indexd_cli.specs.declared.invocation.Invocation.{Invocation}
use Rattle.indexd_cli.specs.declared.invocation.Invocation.TheVariants.{Preview}
use Rattle.indexd_core.specs.Commands.{is_heard}
use Rattle.indexd_core.specs.Origins.{stated_of}
use Rattle.indexd_core.proofs.CarriedLemmas.{carried_as, previewed, listed, refused, tested}
use Rattle.indexd_core.proofs.NamedLemmas.{stated_short}
use Rattle.indexd_core.proofs.program.carry_out.Goals as goal

pub returns-else-store : goal.returns-else-store
returns-else-store g c =
    let did = c.run_preview.ensures in
    record {
      carried = carried_as (ap (λ (o : Invocation). Some (shown o)) (c.in-Preview.is
          ∙ ap (λ (store : Bool). Preview c.in-Preview.origin store) c.if-store.false))
          (previewed (stated_of c.in-Preview.origin) did.previews refl (record {
            files = did.same;
            out = refl;
            told = λ told. told;
            disk_later = le_refl _;
            heard_later = le_refl _;
            read_later = did.read_later;
            written_later = did.written_later;
            tree_later = did.tree_later;
            missing_later = did.missing_later;
          }));
      unheard = λ other. refl;
    }

pub store_preview-requires : goal.store_preview-requires
store_preview-requires g c =
    stated_short c.requires.0 (stated_of c.in-Preview.origin) true (c.requires.1
    ∙ ap (λ (o : Invocation). Some (shown o)) (c.in-Preview.is
    ∙ ap (λ (store : Bool). Preview c.in-Preview.origin store) c.if-store.true))

pub returns-then-store : goal.returns-then-store
returns-then-store g c =
    let did = c.store_preview.ensures in
    record {
      carried = carried_as (ap (λ (o : Invocation). Some (shown o)) (c.in-Preview.is
          ∙ ap (λ (store : Bool). Preview c.in-Preview.origin store) c.if-store.true)) (record {
            usage = λ is. absurd (did.usage is);
            refused = λ unbuilt. absurd (true≢false unbuilt);
            comes = did.stored _ _ _;
            untouched = λ other. absurd (true≢false other);
            used = λ known stored. did.used known;
            short = did.short;
            keeps = record {
              files = did.same;
              out = refl;
              told = did.told;
              disk_later = did.disk_later;
              heard_later = le_refl _;
              read_later = did.read_later;
              written_later = did.written_later;
              tree_later = did.tree_later;
              missing_later = did.missing_later;
            };
            cause = record {
              input = did.input;
              output = λ is. absurd (did.output is);
              disk = did.disk;
              listener = λ is. absurd (did.listener is);
              undamaged = did.undamaged;
              blamed = did.blamed;
              full = did.full;
              in_use = did.in_use;
            };
          });
      unheard = λ other. refl;
    }

pub returns-in-Feed : goal.returns-in-Feed
returns-in-Feed g c =
    let did = c.feed.ensures in
    record {
      carried = carried_as (ap (λ (o : Invocation). Some (shown o)) c.in-Feed.is) (record {
        usage = λ is. absurd (did.usage is);
        refused = λ unbuilt. absurd (true≢false unbuilt);
        comes = did.feeds _ _ _;
        untouched = λ other. absurd (true≢false other);
        used = λ known stored. did.used known;
        short = did.short;
        keeps = record {
          files = did.same;
          out = refl;
          told = did.told;
          disk_later = did.disk_later;
          heard_later = le_refl _;
          read_later = did.read_later;
          written_later = did.written_later;
          tree_later = did.tree_later;
          missing_later = did.missing_later;
        };
        cause = record {
          input = did.input;
          output = did.output;
          disk = did.disk;
          listener = λ is. absurd (did.listener is);
          undamaged = did.undamaged;
          blamed = did.blamed;
          full = did.full;
          in_use = did.in_use;
        };
      });
      unheard = λ other. refl;
    }

pub returns-in-Serve : goal.returns-in-Serve
returns-in-Serve g c =
    let did = c.serve.ensures in
    record {
      carried = carried_as (ap (λ (o : Invocation). Some (shown o)) c.in-Serve.is) (record {
        usage = λ is. absurd (did.usage is);
        refused = λ unbuilt. absurd (true≢false unbuilt);
        comes = (did.serves _, refl);
        untouched = λ other. absurd (true≢false other);
        used = λ known stored. did.used known;
        short = did.short;
        keeps = record {
          files = did.same;
          out = did.out;
          told = did.told;
          disk_later = did.disk_later;
          heard_later = did.heard_later;
          read_later = le_refl _;
          written_later = did.written_later;
          tree_later = did.tree_later;
          missing_later = did.missing_later;
        };
        cause = record {
          input = λ is. inr (did.input is);
          output = did.output;
          disk = did.disk;
          listener = did.listener;
          undamaged = did.undamaged;
          blamed = did.blamed;
          full = did.full;
          in_use = did.in_use;
        };
      });
      unheard = λ other. absurd (true≢false (sym (ap (λ (o : Invocation). is_heard (Some (shown o))) c.in-Serve.is) ∙ other));
    }

pub returns-in-Monitor : goal.returns-in-Monitor
returns-in-Monitor g c =
    let did = c.run_monitored.ensures in
    record {
      carried = carried_as (ap (λ (o : Invocation). Some (shown o)) c.in-Monitor.is) (record {
        usage = λ is. absurd (did.usage is);
        refused = λ unbuilt. absurd (true≢false unbuilt);
        comes = (did.monitored _ _ _ _, refl);
        untouched = λ other. absurd (true≢false other);
        used = λ known stored. did.used known;
        short = did.short;
        keeps = record {
          files = did.same;
          out = refl;
          told = did.told;
          disk_later = did.disk_later;
          heard_later = le_refl _;
          read_later = le_refl _;
          written_later = did.written_later;
          tree_later = did.tree_later;
          missing_later = did.missing_later;
        };
        cause = record {
          input = λ is. inr (did.input is);
          output = did.output;
          disk = did.disk;
          listener = λ is. absurd (did.listener is);
          undamaged = did.undamaged;
          blamed = did.blamed;
          full = did.full;
          in_use = did.in_use;
        };
      });
      unheard = λ other. refl;
    }

pub returns-in-Buckets : goal.returns-in-Buckets
returns-in-Buckets g c = record {
  carried = carried_as (ap (λ (o : Invocation). Some (shown o)) c.in-Buckets.is) (c.do_task.ensures _ _ _ _);
  unheard = λ other. refl;
}

pub returns-in-Export : goal.returns-in-Export
returns-in-Export g c = record {
  carried = carried_as (ap (λ (o : Invocation). Some (shown o)) c.in-Export.is) (c.do_task-in-Export.ensures _ _ _ _);
  unheard = λ other. refl;
}

pub returns-in-Roll : goal.returns-in-Roll
returns-in-Roll g c = record {
  carried = carried_as (ap (λ (o : Invocation). Some (shown o)) c.in-Roll.is) (c.do_task-in-Roll.ensures _ _ _ _);
  unheard = λ other. refl;
}

pub returns-in-Thaw : goal.returns-in-Thaw
returns-in-Thaw g c = record {
  carried = carried_as (ap (λ (o : Invocation). Some (shown o)) c.in-Thaw.is) (c.do_task-in-Thaw.ensures _ _ _ _);
  unheard = λ other. refl;
}

pub returns-in-Tick : goal.returns-in-Tick
returns-in-Tick g c = record {
  carried = carried_as (ap (λ (o : Invocation). Some (shown o)) c.in-Tick.is) (c.do_task-in-Tick.ensures _ _ _ _);
  unheard = λ other. refl;
}

pub returns-in-Some : goal.returns-in-Some
returns-in-Some g c =
    let did = c.btool.ensures in
    record {
      carried = carried_as (ap (λ (o : Invocation). Some (shown o)) c.in-Btool.is)
          (listed c.in-Btool.file.now c.in-Some.file (sym c.named.ensures ∙ c.in-Some.is) did.tells refl refl refl (record {
            files = did.same;
            out = refl;
            told = λ told. told;
            disk_later = le_refl _;
            heard_later = le_refl _;
            read_later = le_refl _;
            written_later = did.written_later;
            tree_later = did.read_later;
            missing_later = did.missing_later;
          }));
      unheard = λ other. refl;
    }

pub returns-in-None : goal.returns-in-None
returns-in-None g c = record {
  carried = carried_as (ap (λ (o : Invocation). Some (shown o)) c.in-Btool.is)
      (refused g.D.Disk _ _ _ _ (ap is_some (sym c.named.ensures ∙ c.in-None.is)) c.stop.ensures.status c.stop.ensures.line
      c.stop.ensures.later);
  unheard = λ other. refl;
}

pub returns-in-Selftest : goal.returns-in-Selftest
returns-in-Selftest g c = record {
  carried = carried_as (ap (λ (o : Invocation). Some (shown o)) c.in-Selftest.is)
      (tested g.D.Disk c.in-Selftest.seed c.in-Selftest.count _ _ c.run_selftest.result c.run_selftest.ensures.tests
      c.run_selftest.ensures.later);
  unheard = λ other. refl;
}
