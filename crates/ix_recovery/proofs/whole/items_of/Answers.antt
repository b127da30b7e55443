use Rattle.std.proofs.Common.{◌≡◌, ◌<◌, ◌-◌, ◌^◌, Bool, true, false, List, length, sym, subst, rules}
use Rattle.std.specs.Prelude.{All}
use Rattle.std.specs.List.{AllByRecursion}
use Rattle.ix_items.specs.Spelling.{HasSpelling, IsWritable, body_bytes}
use Rattle.ix_items.specs.declared.items.Item.{Item}
use Rattle.ix_recovery.proofs.Sound.{can_write, said_is, said_leads, said_writable, said_short}
use Rattle.ix_recovery.proofs.whole.items_of.Goals as goal

both : {b : Bool} → b ≡ true → b ≡ false → ⊥
both t f = cc

pub have_room-requires : goal.have_room-requires
have_room-requires c =
    subst (AllByRecursion HasSpelling) (sym c.as_slice-2.ensures)
    (can_write c.args.fresh c.args.held.now c.in-Ok.said c.in-Ok.ensures
    (subst (All IsWritable) c.as_slice.ensures (c.are_writable.ensures.0 c.if-not-are_writable.false)))

pub returns-then-not-are_writable-clause-sound : goal.returns-then-not-are_writable-clause-sound
returns-then-not-are_writable-clause-sound c = λ err choose history h first.
    both
    (c.are_writable.ensures.1
    (subst (All IsWritable) (sym c.as_slice.ensures) (said_writable c.args.fresh c.args.held.now c.in-Ok.said c.in-Ok.ensures choose history
    h first)))
    c.if-not-are_writable.true

pub returns-in-Ok-true-clause-said : goal.returns-in-Ok-true-clause-said
returns-in-Ok-true-clause-said c = λ choose history h first.
    said_is c.args.fresh c.args.held.now c.in-Ok.said c.in-Ok.ensures choose history h first

pub returns-in-Ok-true-clause-leads : goal.returns-in-Ok-true-clause-leads
returns-in-Ok-true-clause-leads c = λ choose history h first.
    said_leads c.args.fresh c.args.held.now c.in-Ok.said c.in-Ok.ensures choose history h first

pub returns-in-Ok-true-clause-proper : goal.returns-in-Ok-true-clause-proper
returns-in-Ok-true-clause-proper c =
    can_write c.args.fresh c.args.held.now c.in-Ok.said c.in-Ok.ensures
    (subst (All IsWritable) c.as_slice.ensures (c.are_writable.ensures.0 c.if-not-are_writable.false))

pub returns-in-Ok-false-clause-sound : goal.returns-in-Ok-false-clause-sound
returns-in-Ok-false-clause-sound c = λ err choose history h first.
    both
    (c.in-Ok-false.ensures.1
    (subst (λ (l : List Item). length (body_bytes l) < 2 ^ 32 - 64) (sym c.as_slice-2.ensures)
    (said_short c.args.fresh c.args.held.now c.in-Ok.said c.in-Ok.ensures choose history h first)))
    c.in-Ok-false.field-0-test

pub returns-in-Ok-false-clause-said : goal.returns-in-Ok-false-clause-said
returns-in-Ok-false-clause-said c = search rules
