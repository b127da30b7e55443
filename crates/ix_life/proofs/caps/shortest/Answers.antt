use Rattle.std.proofs.Common.{◌≡◌, arith, length}
use Rattle.ix_life.specs.Prefix as defs
use Rattle.ix_life.proofs.PrefixLemmas.{shortest_is, met_at, all_go}
use Rattle.ix_life.proofs.caps.shortest.Goals as goal

pub returns-then-fits-clause-value : goal.returns-then-fits-clause-value
returns-then-fits-clause-value c = met_at c.args.cap.now c.args.buckets.now c.loop-i.i c.loop-i.left c.loop-i-test.true
    c.loop-i.invariant.left c.if-fits.ensures c.loop-i.invariant.rest

pub returns-then-fits-clause-is : goal.returns-then-fits-clause-is
returns-then-fits-clause-is c = rw (returns-then-fits-clause-value c) (shortest_is (defs.allowed c.args.cap.now) c.args.buckets.now)

pub returns-clause-is : goal.returns-clause-is
returns-clause-is c =
    let h : length c.args.buckets.now ≡ defs.shortest (defs.allowed c.args.cap.now) c.args.buckets.now =
    all_go c.args.cap.now c.args.buckets.now c.loop-i.i (omega (arith, c.loop-i-test.false, c.loop-i.auto.i-end))
    c.loop-i.invariant.rest in
    rw h (shortest_is (defs.allowed c.args.cap.now) c.args.buckets.now)
