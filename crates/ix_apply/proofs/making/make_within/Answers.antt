use Rattle.std.proofs.Common.{◌≡◌, true, false, sym, ◌∙◌}
use Rattle.ix_bounds.specs.Within.{AreWithin}
use Rattle.ix_apply.specs.Seen.{parts_of}
use Rattle.ix_apply.proofs.Pairing.{within_is}
use Rattle.ix_apply.proofs.making.make_within.Goals as goal

true_false : true ≡ false → ⊥
true_false e = cc

pub returns-then-is_within-clause-done : goal.returns-then-is_within-clause-done
returns-then-is_within-clause-done c = λ choose history f.
    (let p = c.in_ok-pair.ensures.done choose history f in (
      p,
      (within_is choose history c.args.order (parts_of c.args.held.now c.in_ok-pair.pair.step.next) p.parts).0
          (c.is_within.ensures.0 c.if-is_within.true),
    ))

pub returns-else-is_within-clause-full : goal.returns-else-is_within-clause-full
returns-else-is_within-clause-full c = λ was choose history f bounds.
    (let p = c.in_ok-pair.ensures.done choose history f in
    let within : AreWithin (parts_of c.args.held.now c.in_ok-pair.pair.step.next) =
    (within_is choose history c.args.order (parts_of c.args.held.now c.in_ok-pair.pair.step.next) p.parts).1 bounds in
    true_false (sym (c.is_within.ensures.1 within) ∙ c.if-is_within.false))
