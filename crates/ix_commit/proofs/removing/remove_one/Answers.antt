use Rattle.ix_commit.specs.Contents.{filling}
use Rattle.ix_commit.proofs.Settling.{settle_none}
use Rattle.ix_commit.proofs.FreeFiles.{remove_run}
use Rattle.ix_commit.proofs.Reading.{removing_same, removing_begun, removing_done, gone_done}
use Rattle.ix_commit.proofs.removing.remove_one.Goals as goal

pub returns-in_err-remove-clause-images : goal.returns-in_err-remove-clause-images
returns-in_err-remove-clause-images g c = λ contents free.
    remove_run g.D.Disk c.args.current contents c.args.disk.now c.args.disk.now c.remove.new.self c.args.file free
    (settle_none g.D.Disk c.args.current (filling contents) c.args.disk.now) c.remove.ensures.images

pub returns-clause-images : goal.returns-clause-images
returns-clause-images g c = λ contents free.
    remove_run g.D.Disk c.args.current contents c.args.disk.now c.args.disk.now c.remove.new.self c.args.file free
    (settle_none g.D.Disk c.args.current (filling contents) c.args.disk.now) c.remove.ensures.images

pub returns-in_err-remove-clause-seen : goal.returns-in_err-remove-clause-seen
returns-in_err-remove-clause-seen g c = removing_begun c.args.file (g.D.Disk.seen c.args.disk.now) (g.D.Disk.seen c.remove.new.self)
    c.in_err-remove.ensures.begun

pub returns-clause-seen : goal.returns-clause-seen
returns-clause-seen g c = removing_done c.args.file (g.D.Disk.seen c.args.disk.now) (g.D.Disk.seen c.remove.new.self)
    c.in_ok-remove.ensures.removed

pub returns-clause-removed : goal.returns-clause-removed
returns-clause-removed g c = λ image told apart. gone_done c.args.file (g.D.Disk.seen c.args.disk.now) (g.D.Disk.seen c.remove.new.self)
    c.in_ok-remove.ensures.removed image told
