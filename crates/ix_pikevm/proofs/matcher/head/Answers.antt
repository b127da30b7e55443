use Rattle.std.proofs.Common.{◌<◌, length, sym, ◌∙◌, ap, subst}
use Rattle.std.specs.Prelude.{replicate, None, slice_get}
use Rattle.ix_pattern.specs.Rows.{Shape, tree}
use Rattle.ix_pikevm.specs.Leaf.{text_of}
use Rattle.ix_pikevm.specs.Code.{best_ways}
use Rattle.ix_pikevm.specs.Plans.{Knows}
use Rattle.ix_pikevm.specs.Programs.{IsProgram, AsksFit}
use Rattle.ix_pikevm.specs.Ran.{AreMarks}
use Rattle.ix_pikevm.proofs.ProgramLemmas.{program-head}
use Rattle.ix_pikevm.proofs.matcher.head.Goals as goal

pub run-requires-clause-start : goal.run-requires-clause-start
run-requires-clause-start g c = subst (λ l. c.args.finder.now.program.start < length l) (sym c.plan_of-plan.ensures.code)
    c.requires.finder.program.code.within

pub run-requires-clause-room : goal.run-requires-clause-room
run-requires-clause-room g c = (
  subst (λ l. AreMarks c.args.room.now.main.marks.items (length l) c.args.room.now.main.stamp) (sym c.plan_of-plan.ensures.code)
      c.requires.room.main,
  subst (λ l. AreMarks c.args.room.now.inner.marks.items (length l) c.args.room.now.inner.stamp) (sym c.plan_of-plan.ensures.inner)
      c.requires.room.inner,
  subst (λ a. AsksFit a (length c.plan_of-plan.result.inner.now) (length c.args.room.now.looks.items)) (sym c.plan_of-plan.ensures.asks)
      (subst (λ i. AsksFit c.args.finder.now.program.asks.items (length i) (length c.args.room.now.looks.items))
      (sym c.plan_of-plan.ensures.inner) c.requires.room.looks),
)

pub returns-clause-head : goal.returns-clause-head
returns-clause-head g c =
    let program = subst (λ l. IsProgram c.args.p.now.rows (tree c.args.p.now.rows) l c.args.finder.now.program.start)
    (sym c.plan_of-plan.ensures.code) c.requires.finder.program.code in
    let h = program-head (Knows c.plan_of-plan.result) c.args.p.now.rows (tree c.args.p.now.rows) c.plan_of-plan.result.code.now
    (text_of c.args.input) c.args.finder.now.program.start c.args.place
    c.run.new.room.main.cells.items c.in_ok-best.best (replicate c.args.p.now.groups None) program c.plan_of-plan.ensures.knows
    c.requires.within c.in_ok-best.ensures.head in
    h ∙ ap (λ l. slice_get (best_ways (replicate c.args.p.now.groups None) l c.in_ok-best.best) 0) (sym c.deref.ensures.value)
    ∙ ap (λ n. slice_get (best_ways (replicate n None) c.deref.result.now c.in_ok-best.best) 0) (sym c.groups.ensures.is)
    ∙ c.in_ok-outcome.ensures

pub returns-clause-room : goal.returns-clause-room
returns-clause-room g c =
    let r = c.in_ok-best.ensures.room in
    record {
      main = subst (λ l. AreMarks c.run.new.room.main.marks.items (length l) c.run.new.room.main.stamp) c.plan_of-plan.ensures.code r.0;
      inner = subst (λ l. AreMarks c.run.new.room.inner.marks.items (length l) c.run.new.room.inner.stamp) c.plan_of-plan.ensures.inner r.1;
      looks = subst (λ a. AsksFit a (length c.args.finder.now.program.inner.items) (length c.run.new.room.looks.items))
          c.plan_of-plan.ensures.asks
          (subst (λ i. AsksFit c.plan_of-plan.result.asks.now (length i) (length c.run.new.room.looks.items)) c.plan_of-plan.ensures.inner
          r.2);
    }

pub returns-clause-later : goal.returns-clause-later
returns-clause-later g c = c.run.ensures.counts.later

pub returns-clause-tabled : goal.returns-clause-tabled
returns-clause-tabled g c = λ whole. c.run.ensures.counts.none (c.plan_of-plan.ensures.width ∙ whole
    ∙ ap (λ (q : Shape). length q.rows) (sym c.plan_of-plan.ensures.pattern))
