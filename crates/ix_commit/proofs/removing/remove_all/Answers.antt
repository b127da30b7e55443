use Rattle.std.proofs.Common.{arith, take, List, subst}
use Rattle.std.specs.Prelude.{All}
use Rattle.std.proofs.lemmas.List.{take_all}
use Rattle.std.proofs.lemmas.List.Elements.{All-get_or, All-more}
use Rattle.ix_base.specs.declared.files.File.{File}
use Rattle.ix_commit.specs.Contents.{IsFree, filling}
use Rattle.ix_commit.proofs.Settling.{spares_through, logs_on_keep}
use Rattle.ix_commit.specs.Reads.{IsGone}
use Rattle.ix_commit.proofs.Reading.{removing_through, gone_on}
use Rattle.ix_commit.proofs.removing.remove_all.Goals as goal

pub returns-in_err-remove_one-clause-images : goal.returns-in_err-remove_one-clause-images
returns-in_err-remove_one-clause-images g c = λ contents free.
    spares_through g.D.Disk c.args.current (filling contents) c.args.disk.now c.loop-file.disk c.remove_one.new.disk
    (c.loop-file.invariant.run contents free)
    (c.remove_one.ensures.images contents (All-get_or (IsFree c.args.current contents) c.args.files.now c.loop-file.file-index _
    c.loop-file-test.true free))

pub returns-in_err-remove_one-clause-logs : goal.returns-in_err-remove_one-clause-logs
returns-in_err-remove_one-clause-logs g c = logs_on_keep g.D.Disk c.args.current c.args.disk.now c.loop-file.disk c.remove_one.new.disk _
    (λ a b keeps. keeps) c.loop-file.invariant.logs c.remove_one.ensures.logs

pub loop-file-preserved : goal.loop-file-preserved
loop-file-preserved g c = record {
  run = λ contents free.
      spares_through g.D.Disk c.args.current (filling contents) c.args.disk.now c.loop-file.disk c.remove_one.new.disk
      (c.loop-file.invariant.run contents free)
      (c.remove_one.ensures.images contents (All-get_or (IsFree c.args.current contents) c.args.files.now c.loop-file.file-index _
      c.loop-file-test.true free));
  logs = logs_on_keep g.D.Disk c.args.current c.args.disk.now c.loop-file.disk c.remove_one.new.disk _ (λ a b keeps. keeps)
      c.loop-file.invariant.logs c.remove_one.ensures.logs;
  seen = removing_through (g.D.Disk.seen c.args.disk.now) (g.D.Disk.seen c.loop-file.disk) (g.D.Disk.seen c.remove_one.new.disk)
      c.loop-file.invariant.seen c.remove_one.ensures.seen;
  gone = λ image told.
      All-more (IsGone c.args.current image) c.args.files.now c.loop-file.file-index _ c.loop-file-test.true
      (gone_on g.D.Disk c.args.current (take c.loop-file.file-index c.args.files.now) c.loop-file.disk c.remove_one.new.disk
      c.remove_one.ensures.seen c.loop-file.invariant.gone image told)
      (c.in_ok-remove_one.ensures.removed image told);
  later = omega (arith, c.loop-file.invariant.later, c.remove_one.ensures.cause.later);
}

pub returns-in_err-remove_one-clause-seen : goal.returns-in_err-remove_one-clause-seen
returns-in_err-remove_one-clause-seen g c = removing_through (g.D.Disk.seen c.args.disk.now) (g.D.Disk.seen c.loop-file.disk)
    (g.D.Disk.seen c.remove_one.new.disk) c.loop-file.invariant.seen c.remove_one.ensures.seen

pub returns-clause-removed : goal.returns-clause-removed
returns-clause-removed g c = λ image told.
    subst (λ (l : List File). All (IsGone c.args.current image) l) (take_all c.loop-file.file-index c.args.files.now c.loop-file-test.false)
    (c.loop-file.invariant.gone image told)
