use Rattle.indexd_premises.proofs.empty_disk.Goals as goal

pub returns-clause-begins : goal.returns-clause-begins
returns-clause-begins c =
    let exist = c.choosers_exist.ensures in
    (exist.0, c.an_empty_disk_may_run.ensures exist.0 c.new.result exist.1 c.new.ensures.left c.new.ensures.seen)

pub returns-clause-start : goal.returns-clause-start
returns-clause-start c = c.blank_disks_are_starts.ensures c.new.result (record { left = c.new.ensures.left; seen = c.new.ensures.seen })
