use Rattle.std.proofs.Common.{◌++◌, ◌∙◌, ap, ◌<◌, length, arith}
use Rattle.ix_catalog.specs.declared.housekeeping_result.HousekeepingResult.{HousekeepingResult}
use Rattle.ix_catalog.proofs.TurningLemmas.{made_step, turned_step, numbered_step}
use Rattle.ix_catalog.proofs.housekeeping_result.HousekeepingResult.carry_out_all.Goals as goal

pub loop-i-preserved : goal.loop-i-preserved
loop-i-preserved c =
    let l : c.loop-i.i < length c.args.buckets.now = omega arith in
    record {
      stay = turned_step c.args.turn.now c.args.buckets.now c.loop-i.i _ l _ _
          (ap (λ (m : HousekeepingResult). m.next_file) c.in_ok-left.ensures.made) _ _ _
          (c.in_ok-add.ensures ∙ ap (λ x. c.loop-i.stay ++ x) c.in_ok-left.ensures.stays) c.loop-i.invariant.stay;
      numbered = numbered_step c.args.turn.now c.args.buckets.now c.loop-i.i _ l _ _
          (ap (λ (m : HousekeepingResult). m.next_file) c.in_ok-left.ensures.made) _ _ _
          c.in_ok-push.ensures.items c.loop-i.invariant.numbered;
      made = made_step c.args.turn.now c.args.buckets.now c.loop-i.i _ l _ _ _ c.in_ok-left.ensures.made c.loop-i.invariant.made;
      counted = c.in_ok-left.ensures.counted;
    }
