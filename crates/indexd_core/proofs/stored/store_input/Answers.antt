use Rattle.std.proofs.Common.{◌≤◌, ◌∙◌, ap, arith, le_refl}
use Rattle.indexd_run.proofs.Feeding.{none_taken}
use Rattle.indexd_run.proofs.Tasks.{on_ok_by, at_ok, if_err_by, at_err}
use Rattle.indexd_run.specs.Stops.{is_input}
use Rattle.indexd_core.proofs.StoredLemmas.{brief_index, by_blame, err_as, from_start, same_stop, yes_no}
use Rattle.ix_serve.proofs.Standing.{tells_on}
use Rattle.indexd_core.proofs.stored.store_input.Goals as goal

pub run_preview-requires-clause-settings : goal.run_preview-requires-clause-settings
run_preview-requires-clause-settings g c = λ moment. c.requires.settings

pub run_preview-requires-clause-ends : goal.run_preview-requires-clause-ends
run_preview-requires-clause-ends g c = λ moment. (let short : 1 ≤ 4097 = omega arith in short)

pub run_preview-requires-clause-begins : goal.run_preview-requires-clause-begins
run_preview-requires-clause-begins g c = λ moment. (
  (let short : 1 ≤ 4097 = omega arith in short),
  record {
    host = c.requires.host;
    source = omega (arith, c.requires.source);
    sourcetype = c.requires.sourcetype;
    index = brief_index c.args.origin.index (cc);
  },
)

pub run_preview-requires-clause-adds : goal.run_preview-requires-clause-adds
run_preview-requires-clause-adds g c = λ moment bytes is. ((let short : 1 ≤ 4097 = omega arith in short), is, tt)

pub returns-then-is_long : goal.returns-then-is_long
returns-then-is_long g c = record {
  done = tt;
  stopped = c.miss.ensures.stopped (g.S.Source.left c.args.input.now);
  short = c.miss.ensures.short;
  told = c.miss.ensures.told;
  later = c.miss.ensures.later;
  cause = λ is. c.miss.ensures.cause (same_stop is);
  read_later = le_refl _;
  input = λ is. absurd (yes_no _ (ap is_input (same_stop is)) c.miss.ensures.unread);
  undamaged = c.miss.ensures.undamaged;
  blamed = c.miss.ensures.blamed;
  quiet = c.miss.ensures.quiet;
  read = none_taken c.miss.result (g.S.Source.left c.args.input.now) c.miss.ensures.unread;
}

pub returns : goal.returns
returns g c = record {
  done = on_ok_by c.run_preview.result _ (λ done is. from_start _ _ _ (at_ok c.run_preview.result done _ is c.run_preview.ensures.done));
  stopped = if_err_by c.run_preview.result _ (λ stop is.
      from_start _ _ _ (at_err c.run_preview.result stop _ is c.run_preview.ensures.stopped));
  short = c.run_preview.ensures.short;
  told = tells_on g.D.Disk _ c.args.disk.now c.run_preview.new.disk c.run_preview.ensures.told;
  later = c.run_preview.ensures.later;
  cause = c.run_preview.ensures.cause;
  read_later = c.run_preview.ensures.read_later;
  input = c.run_preview.ensures.input;
  undamaged = if_err_by c.run_preview.result _ (λ stop is. λ blamed. by_blame stop _ blamed
      (λ unsound. from_start _ _ _ (c.run_preview.ensures.sound (is ∙ err_as stop _ unsound)))
      (λ file at damaged. from_start _ _ _ (c.run_preview.ensures.undamaged file at (is ∙ err_as stop _ damaged))));
  blamed = c.run_preview.ensures.blamed;
  quiet = c.run_preview.ensures.quiet;
  read = c.run_preview.ensures.read;
}
