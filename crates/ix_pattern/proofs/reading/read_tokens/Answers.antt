use Rattle.std.proofs.Common.{◌∙◌, ap, count_by}
use Rattle.ix_pattern.specs.Frames.{is_capture}
use Rattle.ix_pattern.proofs.ReadLemmas.{come-begins, come-can, come-on, come-not, going-on, gone, captures-count}
use Rattle.ix_pattern.proofs.reading.read_tokens.Goals as goal

pub loop-token-init : goal.loop-token-init
loop-token-init c = come-begins c.new.result c.empty.result c.new-2.result c.captures-groups.result c.args.tokens.items
    (c.captures-groups.ensures ∙ ap (count_by is_capture) c.deref.ensures.value
    ∙ captures-count c.args.tokens.items) c.empty.ensures c.new-2.ensures.items c.new.ensures.groups c.new.ensures.none

pub step-requires-clause-can : goal.step-requires-clause-can
step-requires-clause-can c = come-can c.loop-token.reader _ _ _ _ c.loop-token.invariant c.in-Some.ensures.items

pub returns-then-not-branch : goal.returns-then-not-branch
returns-then-not-branch c =
    come-not c.loop-token.reader c.step.new.self _ _ c.pop.new.self.items c.in-Some.token c.loop-token.invariant c.in-Some.ensures.items
    (gone _ _ _ _ c.if-not-branch.true c.in_ok-step.ensures)

pub loop-token-preserved : goal.loop-token-preserved
loop-token-preserved c =
    come-on c.loop-token.reader c.step.new.self _ _ c.pop.new.self.items c.in-Some.token c.loop-token.invariant c.in-Some.ensures.items
    (going-on _ _ _ _ c.if-not-branch.false c.in_ok-step.ensures)
