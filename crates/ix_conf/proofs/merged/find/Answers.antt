use Rattle.std.proofs.Common.{◌+◌, ◌-◌, ◌/◌, sym, arith, inl, inr}
use Rattle.std.proofs.lemmas.Bool.{cases_lt}
use Rattle.ix_conf.proofs.SearchLemmas.{above_middle, below_middle, found_there, not_there}
use Rattle.ix_conf.proofs.merged.find.Goals as goal

pub loop-low-preserved-in-Less : goal.loop-low-preserved-in-Less
loop-low-preserved-in-Less c =
    let m = c.loop-low.low + (c.loop-low.high - c.loop-low.low) / 2 in
    record {
      in_order = omega arith;
      within = omega arith;
      below = c.loop-low.invariant.below;
      above = above_middle c.args.stanza.now c.args.key.now c.args.entries.now m c.index-entries-middle.result c.requires (omega arith)
          c.index-entries-middle.is (sym c.in-Less.ensures);
    }

pub loop-low-preserved : goal.loop-low-preserved
loop-low-preserved c =
    let m = c.loop-low.low + (c.loop-low.high - c.loop-low.low) / 2 in
    record {
      in_order = omega arith;
      within = omega arith;
      below = below_middle c.args.stanza.now c.args.key.now c.args.entries.now m c.index-entries-middle.result c.requires (omega arith)
          c.index-entries-middle.is (sym c.in-Greater.ensures);
      above = c.loop-low.invariant.above;
    }

pub returns-in-Equal-clause-entry : goal.returns-in-Equal-clause-entry
returns-in-Equal-clause-entry c =
    let m = c.loop-low.low + (c.loop-low.high - c.loop-low.low) / 2 in
    let e = c.index-entries-middle.result in
    found_there c.args.stanza.now c.args.key.now c.args.entries.now m e c.requires (omega arith)
    (rw (← c.index-entries-middle.is) (sym c.in-Equal.ensures))

pub returns-clause-entry : goal.returns-clause-entry
returns-clause-entry c = not_there c.args.stanza.now c.args.key.now c.args.entries.now (λ i d h.
    elim (cases_lt i c.loop-low.low) [
      | inl less ↦ c.loop-low.invariant.below i d less
      | inr more ↦ c.loop-low.invariant.above i d (omega arith) h
    ])
