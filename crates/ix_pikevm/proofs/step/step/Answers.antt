use Rattle.std.proofs.Common.{◌≡◌, suc, ◌-◌, drop, None, Some, refl, sym, subst, arith}
use Rattle.ix_pikevm.specs.Code.{HasSets}
use Rattle.ix_pikevm.specs.Stepped.{Steps}
use Rattle.ix_pikevm.specs.Tests.{answers_to}
use Rattle.ix_pikevm.proofs.TestLemmas.{answers-length, counts-more}
use Rattle.ix_pikevm.proofs.StepLemmas.{AllBytes-at, Behind, steps-more, known-more}
use Rattle.ix_pikevm.proofs.step.step.Goals as goal

pub behind-requires-clause-byte : goal.behind-requires-clause-byte
behind-requires-clause-byte g c = AllBytes-at c.args.code.now c.args.ready.now (c.loop-i.i - 1) c.thread_at.result c.thread_at.ensures
    c.requires.bytes

pub loop-i-preserved-in-Continue-1 : goal.loop-i-preserved-in-Continue-1
loop-i-preserved-in-Continue-1 g c =
    let after : c.loop-i.i ≡ suc (c.loop-i.i - 1) = omega arith in
    let sets = subst (λ n. HasSets n c.args.code.now) (sym (answers-length c.args.tests.pattern.now.rows c.args.byte)) c.requires.sets in
    let be = subst (Behind c.args.code.now (answers_to c.args.tests.pattern.now.rows c.args.byte) c.thread_at.result) c.in-Some.is
    c.behind.ensures.next in
    record {
      within = omega (arith, c.loop-i.invariant.within);
      steps = steps-more c.args.code.now (answers_to c.args.tests.pattern.now.rows c.args.byte) c.args.ready.now c.loop-i.stack.items
          c.push.new.self.items c.loop-i.i (c.loop-i.i - 1) c.thread_at.result (Some c.in-Some.next) after
          c.requires.bytes sets c.thread_at.ensures be c.in_ok-push.ensures.items c.loop-i.invariant.steps;
      counts = counts-more c.loop-i.invariant.counts c.behind.ensures.counts;
      known = λ n k. known-more c.args.code.now (answers_to c.args.tests.pattern.now.rows c.args.byte) c.args.ready.now c.loop-i.stack.items
          c.push.new.self.items (c.loop-i.i - 1) c.thread_at.result (Some c.in-Some.next)
          c.requires.bytes c.requires.code c.thread_at.ensures be c.in_ok-push.ensures.items n k (c.loop-i.invariant.known n k);
    }

pub loop-i-preserved : goal.loop-i-preserved
loop-i-preserved g c =
    let after : c.loop-i.i ≡ suc (c.loop-i.i - 1) = omega arith in
    let sets = subst (λ n. HasSets n c.args.code.now) (sym (answers-length c.args.tests.pattern.now.rows c.args.byte)) c.requires.sets in
    let be = subst (Behind c.args.code.now (answers_to c.args.tests.pattern.now.rows c.args.byte) c.thread_at.result) c.in_default.is
    c.behind.ensures.next in
    record {
      within = omega (arith, c.loop-i.invariant.within);
      steps = steps-more c.args.code.now (answers_to c.args.tests.pattern.now.rows c.args.byte) c.args.ready.now c.loop-i.stack.items
          c.loop-i.stack.items c.loop-i.i (c.loop-i.i - 1) c.thread_at.result None after
          c.requires.bytes sets c.thread_at.ensures be refl c.loop-i.invariant.steps;
      counts = counts-more c.loop-i.invariant.counts c.behind.ensures.counts;
      known = c.loop-i.invariant.known;
    }

pub returns-clause-steps : goal.returns-clause-steps
returns-clause-steps g c =
    let z : c.loop-i.i ≡ 0 = omega arith in
    subst (λ n. Steps c.args.code.now (answers_to c.args.tests.pattern.now.rows c.args.byte) (drop n c.args.ready.now) c.loop-i.stack.items)
    z c.loop-i.invariant.steps
