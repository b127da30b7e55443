use Rattle.std.proofs.Common.{sym, append-nil}
use Rattle.ix_base.specs.declared.files.File.{File}
use Rattle.ix_base.specs.declared.files.Area.TheVariants.{Meta}
use Rattle.ix_store.proofs.Counted.{appended}
use Rattle.ix_apply.proofs.making.add_files.Goals as goal

abbrev none : File
none = record { area = Meta; number = 0 }

pub loop-file-init : goal.loop-file-init
loop-file-init c = sym (append-nil c.args.list.now)

pub loop-file-preserved : goal.loop-file-preserved
loop-file-preserved c =
    appended c.args.list.now c.loop-file.list _ c.args.files.now c.loop-file.file-index none c.in_ok-push.ensures.ok c.loop-file.invariant
    c.loop-file-test.true
