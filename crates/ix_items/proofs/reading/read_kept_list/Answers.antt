use Rattle.std.proofs.Common.{◌∷◌, [], arith, length-append}
use Rattle.std.proofs.lemmas.Result.{err_from_is_err_and}
use Rattle.ix_items.specs.Spelling.{kept_bytes, IsKept}
use Rattle.ix_items.specs.Reading.{list_at, kept_at}
use Rattle.ix_items.proofs.Lists.{goes_on, ends, is_done, push_found, all_push}
use Rattle.ix_items.proofs.reading.read_kept_list.Goals as goal

pub returns-in_err-kept-clause-gives : goal.returns-in_err-kept-clause-gives
returns-in_err-kept-clause-gives c =
    let p = err_from_is_err_and c.from_residual.result c.from_residual.ensures.1 in
    rw (p.1, p.2) (ends kept_at c.in_err-kept.field-0.0 c.loop.list c.args.count c.loop.counter c.loop.rest.now
    (list_at kept_at c.args.count c.args.bytes.now) c.loop-test.true c.in_err-kept.ensures.gives c.loop.invariant.gives)

pub loop-preserved : goal.loop-preserved
loop-preserved c =
    let is = c.in_ok-push.ensures.ok in
    record {
      gives = rw is (goes_on kept_at c.loop.list c.args.count c.loop.counter c.loop.rest.now c.in_ok-kept.kept c.in_ok-kept.after.now
          (list_at kept_at c.args.count c.args.bytes.now) c.loop-test.true c.in_ok-kept.ensures.gives c.loop.invariant.gives);
      found = rw is (push_found kept_bytes c.loop.list c.in_ok-kept.kept c.args.bytes.now c.loop.rest.now c.in_ok-kept.after.now
          c.loop.invariant.found c.in_ok-kept.ensures.found.0);
      counted = rw is (omega (arith, length-append c.loop.list (c.in_ok-kept.kept ∷ []), c.loop.invariant.counted));
      kept = rw is (all_push IsKept c.loop.list c.in_ok-kept.kept c.loop.invariant.kept c.in_ok-kept.ensures.found.1);
    }

pub returns-clause-gives : goal.returns-clause-gives
returns-clause-gives c = is_done kept_at c.loop.list c.args.count c.loop.counter c.loop.rest.now
    (list_at kept_at c.args.count c.args.bytes.now) c.loop-test.false c.loop.invariant.gives
