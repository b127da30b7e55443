use Rattle.std.proofs.Common.{◌∙◌, ◌≤◌, length, sym, arith}
use Rattle.ix_serve.specs.Entries.{is_pending}
use Rattle.ix_serve.proofs.Asking.{any_next, any_here, any_none}
use Rattle.ix_serve.proofs.queries.has_pending.Goals as goal

pub returns-then-is_pending : goal.returns-then-is_pending
returns-then-is_pending g c = λ e old at.
    any_here (is_pending e c.args.run) c.args.numbers.now c.loop-number.number-index 0 c.loop-number-test.true _
    (sym (c.is_pending.ensures e old at) ∙ c.if-is_pending.true) (c.loop-number.invariant e old at)

pub loop-number-preserved : goal.loop-number-preserved
loop-number-preserved g c = λ e old at.
    any_next (is_pending e c.args.run) c.args.numbers.now c.loop-number.number-index 0 c.loop-number-test.true _
    (sym (c.is_pending.ensures e old at) ∙ c.if-is_pending.false) (c.loop-number.invariant e old at)

pub returns : goal.returns
returns g c = λ e old at.
    let past : length c.args.numbers.now ≤ c.loop-number.number-index = omega (arith, c.loop-number-test.false) in
    any_none (is_pending e c.args.run) c.args.numbers.now c.loop-number.number-index _ past (c.loop-number.invariant e old at)
