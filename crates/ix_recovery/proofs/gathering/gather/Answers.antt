use Rattle.std.proofs.Common.{◌∙◌, ap, sym}
use Rattle.ix_recovery.specs.Gathered.{all_taken}
use Rattle.ix_recovery.proofs.Takes.{taken_last}
use Rattle.ix_recovery.proofs.gathering.gather.Goals as goal

pub loop-item-preserved : goal.loop-item-preserved
loop-item-preserved c =
    let rest = c.pop.new.self.items in
    ap (all_taken rest) c.in_ok-take.ensures ∙ sym (taken_last rest c.in-Some.item c.loop-item.gathered)
    ∙ ap (λ items. all_taken items c.loop-item.gathered) (sym c.in-Some.ensures.items) ∙ c.loop-item.invariant
