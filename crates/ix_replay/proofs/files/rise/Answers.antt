use Rattle.std.proofs.Common.{rules}
use Rattle.ix_replay.specs.Bounds.{AreApart}
use Rattle.ix_replay.proofs.Counting.{often, rising_more, rising_all, not_below, not_above}
use Rattle.ix_replay.proofs.files.rise.Goals.{then-number-least-via-then-number-least}
use Rattle.ix_replay.proofs.files.rise.Goals.{then-number-least-via-else-number-least+then-number-next}
use Rattle.ix_replay.proofs.files.rise.Goals as goal

pub returns-then-number-least : goal.returns-then-number-least
returns-then-number-least c =
    let numbers = c.args.numbers.now in
    let next = c.args.next in
    let i = c.loop-number.number-index in
    let least = c.loop-number.least in
    let no : AreApart (often numbers) next → ⊥ = λ apart. elim c.then-number-least.branch [
      | then-number-least-via-then-number-least w ↦ not_below numbers next i least c.loop-number.invariant c.loop-number-test.true
          c.requires w.if-number-least.true apart
      | then-number-least-via-else-number-least+then-number-next w ↦ not_above numbers next i least c.loop-number.invariant
          c.loop-number-test.true w.if-number-next.true apart
    ] in
    ((λ yes. search rules), (λ apart. absurd (no apart)))

pub loop-number-preserved : goal.loop-number-preserved
loop-number-preserved c = rising_more c.args.numbers.now c.args.next c.loop-number.number-index c.loop-number.least c.loop-number.invariant
    c.loop-number-test.true c.if-number-least.false c.if-number-next.false

pub returns : goal.returns
returns c = (
  (λ yes. rising_all c.args.numbers.now c.args.next c.loop-number.number-index c.loop-number.least c.loop-number.invariant
      c.loop-number-test.false),
  (λ apart. search rules),
)
