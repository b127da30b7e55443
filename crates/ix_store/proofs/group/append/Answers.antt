use Rattle.std.proofs.Common.{sym, append-nil}
use Rattle.ix_base.specs.declared.files.File.{File}
use Rattle.ix_base.specs.declared.files.Area.TheVariants.{Meta}
use Rattle.ix_store.proofs.Counted.{appended}
use Rattle.ix_store.proofs.group.append.Goals as goal

abbrev none : File
none = record { area = Meta; number = 0 }

pub loop-file-init : goal.loop-file-init
loop-file-init c = record { list = sym (append-nil c.args.list.now); numbered = λ all. all }

pub loop-file-preserved : goal.loop-file-preserved
loop-file-preserved c =
    let xs = c.args.files.now in
    let i = c.loop-file.file-index in
    record {
      list = appended c.args.list.now c.loop-file.list _ xs i none c.in_ok-push_file.ensures.ok c.loop-file.invariant.list
          c.loop-file-test.true;
      numbered = λ all. c.in_ok-push_file.ensures.numbered (c.loop-file.invariant.numbered all);
    }
