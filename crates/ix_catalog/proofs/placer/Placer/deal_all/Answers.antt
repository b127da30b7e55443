use Rattle.std.specs.Prelude.{IsErrOf}
use Rattle.std.specs.Vec.Iter.{into_iter_items}
use Rattle.std.proofs.Common.{◌∙◌, ◌++◌, ap, sym, subst, rules, List}
use Rattle.ix_base.specs.declared.events.Routed.{Routed}
use Rattle.ix_catalog.specs.Dealing as defs
use Rattle.ix_catalog.specs.Numbers.{KeepsNumbers}
use Rattle.ix_catalog.specs.declared.placer.DealFault.TheVariants as faults
use Rattle.ix_catalog.specs.declared.placer.Work.{Work}
use Rattle.ix_catalog.proofs.Dealt.{taken_front, keeps_front}
use Rattle.ix_catalog.proofs.placer.Placer.deal_all.Goals as goal

pub returns-in_err-deal-clause-full : goal.returns-in_err-deal-clause-full
returns-in_err-deal-clause-full c = λ is keeps.
    let was : IsErrOf c.deal.result faults.Full = search rules in
    let d = c.args.self.now in
    let it = c.into_iter-outcome-iterator in
    let xs = c.loop-outcome.yielded in
    let all = sym c.into_vec-outcome-items.ensures ∙ sym it.ensures.into_iter_gives.0
    ∙ taken_front it.result xs c.loop-outcome.outcome-iterator c.loop-outcome.yielded_by
    ∙ ap (λ (ys : List Routed). xs ++ ys) c.in-Some.ensures.steps.0 in
    let front = keeps_front d.set.now d.ledger.now d.moment c.args.work.now xs (into_iter_items c.next.new.self) c.args.outcomes
    c.in-Some.outcome all keeps in
    c.deal.ensures.full was
    (subst (λ (w : Work). KeepsNumbers (defs.deal d.set.now d.ledger.now d.moment w c.in-Some.outcome).shelves)
    (sym c.loop-outcome.invariant.done) front)
