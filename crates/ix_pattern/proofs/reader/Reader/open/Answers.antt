use Rattle.std.proofs.Common.{arith, sym}
use Rattle.std.proofs.lemmas.Grind.{common_steps}
use Rattle.ix_pattern.proofs.StepLemmas.{waiting-stepped, held-stepped, outermost-stepped, popped-holds, open-stepped, none-waits}
use Rattle.ix_pattern.proofs.reader.Reader.open.Goals as goal
use Rattle.ix_pattern.proofs.reader.Reader.open.Goals.{then-is_some-via-then-is_some, then-is_some-via-else-is_some+then-not-may_hold}

pub returns-then-is_some : goal.returns-then-is_some
returns-then-is_some c =
    elim c.then-is_some.branch [
      | then-is_some-via-then-is_some w ↦ waiting-stepped c.args.self.now c.args.opening (sym w.if-is_some.ensures)
      | then-is_some-via-else-is_some+then-not-may_hold w ↦ held-stepped c.args.self.now c.args.opening (sym w.if-not-may_hold.ensures)
    ]

pub returns-in_default : goal.returns-in_default
returns-in_default c =
    outermost-stepped c.args.self.now c.pop.new.self c.args.opening
    (grind (arith, common_steps))

pub with_parentheses-requires-clause-here : goal.with_parentheses-requires-clause-here
with_parentheses-requires-clause-here c =
    popped-holds c.args.self.now c.requires.reading.0 c.pop.new.self.items c.in-Some.around c.requires.reading.1 c.in-Some.ensures.items

pub returns : goal.returns
returns c =
    open-stepped c.args.self.now c.with_parentheses.new.work c.in_ok-self.field-0 c.in-Some.around c.pop.new.self _ c.args.opening
    (none-waits c.args.self.now.here.waiting (sym c.if-is_some.ensures)) (sym c.if-not-may_hold.ensures) c.in-Some.ensures.items
    c.in_ok-self.ensures.kept
    (omega (arith, c.opened.ensures, c.requires.can.left))
    (λ n times within s e fi f. c.in_ok-self.ensures.meaning n times within s e fi f)
