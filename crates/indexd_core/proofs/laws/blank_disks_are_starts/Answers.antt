use Rattle.std.proofs.Common.{[]}
use Rattle.indexd_run.specs.Opened.{past_of}
use Rattle.indexd_core.proofs.laws.blank_disks_are_starts.Goals as goal

pub returns : goal.returns
returns g c = λ disk blank from.
    let exist = c.choosers_exist.ensures in
    from (past_of exist.0 [] 0 0) (c.an_empty_disk_may_run.ensures exist.0 disk exist.1 blank.left blank.seen)
