use Rattle.std.proofs.Common.{length, sym, ◌∙◌, ap, subst, arith}
use Rattle.std.specs.Prelude.{replicate, None}
use Rattle.std.proofs.lemmas.Result.{IfOk-from_err}
use Rattle.ix_pattern.specs.Rows.{Shape, tree}
use Rattle.ix_pikevm.specs.Leaf.{text_of}
use Rattle.ix_pikevm.specs.Acts.{AllKnown}
use Rattle.ix_pikevm.specs.Attempts.{so_far, Lasts}
use Rattle.ix_pikevm.specs.Outcomes.{Shows}
use Rattle.ix_pikevm.specs.Plans.{Knows}
use Rattle.ix_pikevm.specs.Programs.{IsProgram}
use Rattle.ix_pikevm.specs.Ran.{IsOf}
use Rattle.ix_pikevm.proofs.AttemptLemmas.{lasts-of, program-shows}
use Rattle.ix_pikevm.proofs.attempt.go_on.Goals as goal

pub returns-clause-head : goal.returns-clause-head
returns-clause-head g c =
    let plan = c.plan_of-plan.result in
    let a = c.args.attempt.now in
    let program = c.args.finder.now.program in
    let rows = c.args.p.now.rows in
    let seen = so_far c.args.input.before c.args.input.bytes.now in
    let known = lasts-of (IsOf rows) (Knows plan) plan.code.now seen program.start a.place a.cells.items a.threads.items a.best
    (λ r kn. kn.same ∙ ap (λ (q : Shape). q.rows) c.plan_of-plan.ensures.pattern)
    (subst (λ l. Lasts (IsOf rows) l seen program.start a.place a.cells.items a.threads.items a.best) (sym c.plan_of-plan.ensures.code)
    c.requires.stands.lasts) in
    let is = subst (λ l. IsProgram rows (tree rows) l program.start) (sym c.plan_of-plan.ensures.code) c.requires.finder.program.code in
    let shows = subst (λ n. Shows (Knows plan) plan.code.now (text_of c.args.input) program.start 0 (replicate n None)
    c.in_ok-outcome.outcome) c.groups.ensures.is
    (c.in_ok-outcome.ensures.head program.start known) in
    program-shows (Knows plan) rows (tree rows) plan.code.now (text_of c.args.input) program.start 0 (replicate c.args.p.now.groups None)
    c.in_ok-outcome.outcome
    is c.plan_of-plan.ensures.knows (omega arith) shows

pub returns-clause-stands : goal.returns-clause-stands
returns-clause-stands g c =
    let plan = c.plan_of-plan.result in
    let a = c.args.attempt.now in
    let b = c.advance.new.attempt in
    let program = c.args.finder.now.program in
    let rows = c.args.p.now.rows in
    let seen = so_far c.args.input.before c.args.input.bytes.now in
    let known = lasts-of (IsOf rows) (Knows plan) plan.code.now seen program.start a.place a.cells.items a.threads.items a.best
    (λ r kn. kn.same ∙ ap (λ (q : Shape). q.rows) c.plan_of-plan.ensures.pattern)
    (subst (λ l. Lasts (IsOf rows) l seen program.start a.place a.cells.items a.threads.items a.best) (sym c.plan_of-plan.ensures.code)
    c.requires.stands.lasts) in
    record {
      within = c.in_ok-outcome.ensures.within;
      known = subst (λ l. AllKnown (length l) (length b.cells.items) b.threads.items) c.plan_of-plan.ensures.code
          c.in_ok-outcome.ensures.known;
      lasts = subst (λ l. Lasts (IsOf rows) l seen program.start b.place b.cells.items b.threads.items b.best) c.plan_of-plan.ensures.code
          (lasts-of (Knows plan) (IsOf rows) plan.code.now seen program.start b.place b.cells.items b.threads.items b.best
          (λ r e. subst (Knows plan) (sym e) c.plan_of-plan.ensures.knows) (c.in_ok-outcome.ensures.lasts program.start known));
    }

pub returns-in_err-outcome : goal.returns-in_err-outcome
returns-in_err-outcome g c = record {
  head = IfOk-from_err c.from_residual.result _ c.from_residual.ensures.0;
  stands = IfOk-from_err c.from_residual.result _ c.from_residual.ensures.0;
  room = IfOk-from_err c.from_residual.result _ c.from_residual.ensures.0;
  later = c.advance.ensures.counts.later;
  tabled = λ whole. c.advance.ensures.counts.none (c.plan_of-plan.ensures.width ∙ whole
      ∙ ap (λ (q : Shape). length q.rows) (sym c.plan_of-plan.ensures.pattern));
}
