use Rattle.std.proofs.Common.{length, sym, subst, [], arith}
use Rattle.ix_pikevm.specs.Settled.{HasHead}
use Rattle.ix_pikevm.proofs.RunLemmas.{marks-kept}
use Rattle.ix_pikevm.proofs.thread_scratch.follow.Goals as goal

pub returns-clause-rounds : goal.returns-clause-rounds
returns-clause-rounds c = λ real ag rows blank mean rank m lk front first.
    subst (λ b. HasHead mean blank c.args.place c.settle.new.cells.items c.settle.new.ready.items [] b front) (sym c.or_best.ensures)
    (c.in_ok-found.ensures.settles real ag rows blank mean rank m lk c.args.best front first)

pub returns-clause-grown : goal.returns-clause-grown
returns-clause-grown c = record { added = c.in_ok-found.ensures.grown.0; is = c.in_ok-found.ensures.grown.1 }

pub returns-clause-marks : goal.returns-clause-marks
returns-clause-marks c =
    marks-kept c.settle.new.marks _ c.args.work.now.marks.len (length c.args.code.now) c.next_stamp-work.result
    (omega (arith, c.args.work.now.marks.ok.0, c.requires.marks.0, c.in_ok-found.ensures.marks)) c.in_ok-found.ensures.marks
    c.in_ok-found.ensures.stamps
