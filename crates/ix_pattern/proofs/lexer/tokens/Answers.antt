use Rattle.ix_pattern.proofs.LexLemmas.{none_of, some_of, tokens_finished, tokens_step, tokens_failed, tokens_over}
use Rattle.ix_pattern.proofs.lexer.tokens.Goals as goal

pub returns-then-is_empty : goal.returns-then-is_empty
returns-then-is_empty c = tokens_finished _ _ _ _ _ c.loop.invariant (none_of c.loop.rest.now c.if-is_empty.ensures)

pub returns-in_default : goal.returns-in_default
returns-in_default c =
    tokens_failed c.loop.found.items c.args.most c.loop.counter c.args.flags c.loop.rest.now _ c.loop-test.true
    (some_of c.loop.rest.now c.if-is_empty.ensures) c.in_default.ensures c.loop.invariant

pub loop-preserved : goal.loop-preserved
loop-preserved c =
    tokens_step c.loop.found.items c.push.new.self.items c.args.most c.loop.counter c.args.flags c.loop.rest.now c.in-Some.behind.now
    c.in-Some.token _ c.loop-test.true
    (some_of c.loop.rest.now c.if-is_empty.ensures) c.in-Some.ensures c.in_ok-push.ensures.items c.loop.invariant

pub returns-then-is_empty-2 : goal.returns-then-is_empty-2
returns-then-is_empty-2 c = tokens_finished _ _ _ _ _ c.loop.invariant (none_of c.loop.rest.now c.if-is_empty-2.ensures)

pub returns : goal.returns
returns c =
    tokens_over c.loop.found.items c.args.most c.loop.counter c.args.flags c.loop.rest.now _ c.loop-test.false
    (some_of c.loop.rest.now c.if-is_empty-2.ensures) c.loop.invariant
