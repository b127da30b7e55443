use Rattle.std.proofs.Common.{[]}
use Rattle.indexd_run.specs.Opened.{past_of}
use Rattle.indexd_premises.proofs.Following.{of_words, from_nothing}
use Rattle.indexd_premises.proofs.second_run.Goals as goal

pub returns-clause-undamaged : goal.returns-clause-undamaged
returns-clause-undamaged g c = λ over damaged.
    let left = of_words _ _ c.first_run-first.ensures.task c.first_run-first.ensures.stored c.first_run-first.ensures.fed
    c.first_run-first.ensures.served c.first_run-first.ensures.monitored over in
    c.top-ended.ensures.undamaged damaged (past_of left.choose left.again.next left.again.least_run left.again.n) left.again.may_run

pub returns-clause-goes_on : goal.returns-clause-goes_on
returns-clause-goes_on g c = λ over again.
    let left = of_words _ _ c.first_run-first.ensures.task c.first_run-first.ensures.stored c.first_run-first.ensures.fed
    c.first_run-first.ensures.served c.first_run-first.ensures.monitored over in
    let past = past_of left.choose left.again.next left.again.least_run left.again.n in
    let may = left.again.may_run in
    let told = c.top-ended.ensures.told (may.image, may.tells) in
    let leaves = of_words _ _ (λ asks. c.runs_leave.ensures.tasked past _ _ _ _ may (c.top-ended.ensures.task asks).2)
    (λ stated asks. c.runs_leave.ensures.stored past _ _ _ _ may (c.top-ended.ensures.stored stated asks))
    (λ asks. c.runs_leave.ensures.fed past _ _ _ may (c.top-ended.ensures.fed asks))
    (λ port requests asks. c.runs_leave.ensures.served past _ _ _ _ may (c.top-ended.ensures.served port requests asks))
    (λ close asks. c.monitors_leave.ensures past _ _ _ _ may (c.top-ended.ensures.monitored close asks)) again in
    from_nothing _ past _
    (c.the_next_run_may_begin.ensures.anywhere past _ _ _ _ may leaves told.1 (c.an_exit_is_a_stop.ensures past _ _ leaves))
