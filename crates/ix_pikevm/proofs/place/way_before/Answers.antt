use Rattle.std.proofs.Common.{◌<◌, length, sym, ◌∙◌, ap, subst}
use Rattle.ix_pattern.specs.Rows.{Shape, tree}
use Rattle.ix_pikevm.specs.Leaf.{text_of}
use Rattle.ix_pikevm.specs.Plans.{Knows}
use Rattle.ix_pikevm.specs.Programs.{IsProgram, AsksFit}
use Rattle.ix_pikevm.specs.Ran.{AreMarks}
use Rattle.ix_pikevm.proofs.PlaceLemmas.{is-before}
use Rattle.ix_pikevm.proofs.place.way_before.Goals as goal

pub seek-requires-clause-start : goal.seek-requires-clause-start
seek-requires-clause-start g c = subst (λ l. c.args.finder.now.program.start < length l) (sym c.plan_of-plan.ensures.code)
    c.requires.finder.program.code.within

pub seek-requires-clause-room : goal.seek-requires-clause-room
seek-requires-clause-room g c = (
  subst (λ l. AreMarks c.args.room.now.main.marks.items (length l) c.args.room.now.main.stamp) (sym c.plan_of-plan.ensures.code)
      c.requires.room.main,
  subst (λ l. AreMarks c.args.room.now.inner.marks.items (length l) c.args.room.now.inner.stamp) (sym c.plan_of-plan.ensures.inner)
      c.requires.room.inner,
  subst (λ a. AsksFit a (length c.plan_of-plan.result.inner.now) (length c.args.room.now.looks.items)) (sym c.plan_of-plan.ensures.asks)
      (subst (λ i. AsksFit c.args.finder.now.program.asks.items (length i) (length c.args.room.now.looks.items))
      (sym c.plan_of-plan.ensures.inner) c.requires.room.looks),
)

pub returns-clause-before : goal.returns-clause-before
returns-clause-before g c =
    let program = subst (λ l. IsProgram c.args.p.now.rows (tree c.args.p.now.rows) l c.args.finder.now.program.start)
    (sym c.plan_of-plan.ensures.code) c.requires.finder.program.code in
    is-before (Knows c.plan_of-plan.result) c.args.p.now c.plan_of-plan.result.code.now c.args.finder.now.program.start
    (text_of c.args.input) c.args.from c.args.to c.in_ok-end.end
    program c.plan_of-plan.ensures.knows c.requires.to c.in_ok-end.ensures.sought

pub returns-clause-room : goal.returns-clause-room
returns-clause-room g c =
    let r = c.in_ok-end.ensures.room in
    record {
      main = subst (λ l. AreMarks c.seek.new.room.main.marks.items (length l) c.seek.new.room.main.stamp) c.plan_of-plan.ensures.code r.0;
      inner = subst (λ l. AreMarks c.seek.new.room.inner.marks.items (length l) c.seek.new.room.inner.stamp) c.plan_of-plan.ensures.inner
          r.1;
      looks = subst (λ a. AsksFit a (length c.args.finder.now.program.inner.items) (length c.seek.new.room.looks.items))
          c.plan_of-plan.ensures.asks
          (subst (λ i. AsksFit c.plan_of-plan.result.asks.now (length i) (length c.seek.new.room.looks.items)) c.plan_of-plan.ensures.inner
          r.2);
    }

pub returns-clause-later : goal.returns-clause-later
returns-clause-later g c = c.seek.ensures.counts.later

pub returns-clause-tabled : goal.returns-clause-tabled
returns-clause-tabled g c = λ whole. c.seek.ensures.counts.none (c.plan_of-plan.ensures.width ∙ whole
    ∙ ap (λ (q : Shape). length q.rows) (sym c.plan_of-plan.ensures.pattern))
