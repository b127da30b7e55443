use Rattle.std.proofs.Common.{[]}
use Rattle.indexd_run.specs.Opened.{past_of}
use Rattle.indexd_premises.proofs.Finished.{not_out, of_comes, of_feed, of_listed, of_monitored, of_serve, of_whole}
use Rattle.indexd_premises.proofs.first_run.Goals as goal

pub returns-clause-undamaged : goal.returns-clause-undamaged
returns-clause-undamaged g c = λ damaged. c.empty_disk-disk.ensures.start (c.top-status.ensures.undamaged damaged)

pub returns-clause-task : goal.returns-clause-task
returns-clause-task g c = λ asks.
    let b = c.empty_disk-disk.ensures.begins in
    let past = past_of b.0 [] 0 0 in
    let told = c.top-status.ensures.told (b.1.image, b.1.tells) in
    let comes = c.top-status.ensures.task asks in
    let leaves = c.runs_leave.ensures.tasked past _ _ _ _ b.1 comes.2 in
    record {
      choose = b.0;
      again = c.the_next_run_may_begin.ensures.anywhere past _ _ _ _ b.1 leaves told.1
          (c.an_exit_is_a_stop.ensures past _ _ leaves);
      whole = λ is. of_whole _ _ _ _ _ _ _ is (λ out. not_out _ _ _ _ is out.1)
          (λ config come. of_comes b.0 b.1 _ config _ _ _ _ _ _ told is come) comes.2;
    }

pub returns-clause-stored : goal.returns-clause-stored
returns-clause-stored g c = λ stated asks.
    let b = c.empty_disk-disk.ensures.begins in
    let past = past_of b.0 [] 0 0 in
    let told = c.top-status.ensures.told (b.1.image, b.1.tells) in
    let comes = c.top-status.ensures.stored stated asks in
    let leaves = c.runs_leave.ensures.stored past _ _ _ _ b.1 comes in
    record {
      choose = b.0;
      again = c.the_next_run_may_begin.ensures.anywhere past _ _ _ _ b.1 leaves told.1
          (c.an_exit_is_a_stop.ensures past _ _ leaves);
      whole = λ is. of_whole _ _ _ _ _ _ _ is (λ out. not_out _ _ _ _ is out.2)
          (λ config come. of_comes b.0 b.1 _ config _ _ _ _ _ _ told is come.0) comes;
    }

pub returns-clause-fed : goal.returns-clause-fed
returns-clause-fed g c = λ asks.
    let b = c.empty_disk-disk.ensures.begins in
    let past = past_of b.0 [] 0 0 in
    let told = c.top-status.ensures.told (b.1.image, b.1.tells) in
    let comes = c.top-status.ensures.fed asks in
    let leaves = c.runs_leave.ensures.fed past _ _ _ b.1 comes in
    record {
      choose = b.0;
      again = c.the_next_run_may_begin.ensures.anywhere past _ _ _ _ b.1 leaves told.1
          (c.an_exit_is_a_stop.ensures past _ _ leaves);
      whole = λ is. of_whole _ _ _ _ _ _ _ is (λ out. not_out _ _ _ _ is out.2)
          (λ config come. of_feed b.0 b.1 _ config _ _ _ _ _ _ _ told is come) comes;
    }

pub returns-clause-served : goal.returns-clause-served
returns-clause-served g c = λ port requests asks.
    let b = c.empty_disk-disk.ensures.begins in
    let past = past_of b.0 [] 0 0 in
    let told = c.top-status.ensures.told (b.1.image, b.1.tells) in
    let comes = c.top-status.ensures.served port requests asks in
    let leaves = c.runs_leave.ensures.served past _ _ _ _ b.1 comes in
    record {
      choose = b.0;
      again = c.the_next_run_may_begin.ensures.anywhere past _ _ _ _ b.1 leaves told.1
          (c.an_exit_is_a_stop.ensures past _ _ leaves);
      whole = λ is. of_whole _ _ _ _ _ _ _ is (λ out. out) (λ config come. of_serve b.0 b.1 _ config _ _ _ _ _ _ _ _ told is come)
          comes;
    }

pub returns-clause-monitored : goal.returns-clause-monitored
returns-clause-monitored g c = λ close asks.
    let b = c.empty_disk-disk.ensures.begins in
    let past = past_of b.0 [] 0 0 in
    let told = c.top-status.ensures.told (b.1.image, b.1.tells) in
    let comes = c.top-status.ensures.monitored close asks in
    let leaves = c.monitors_leave.ensures past _ _ _ _ b.1 comes in
    record {
      choose = b.0;
      again = c.the_next_run_may_begin.ensures.anywhere past _ _ _ _ b.1 leaves told.1
          (c.an_exit_is_a_stop.ensures past _ _ leaves);
      whole = λ is. of_monitored _ b.0 _ close _ _ b.1 told is comes;
    }

pub returns-clause-tested : goal.returns-clause-tested
returns-clause-tested g c = λ seed count asks is.
    let b = c.empty_disk-disk.ensures.begins in
    of_listed seed count _ _ _ b.0 b.1.chooser is (c.top-status.ensures.tested seed count asks)
