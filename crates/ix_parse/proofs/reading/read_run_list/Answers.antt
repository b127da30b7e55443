use Rattle.std.proofs.Common.{◌∷◌, [], arith, length-append}
use Rattle.std.proofs.lemmas.Result.{err_from_is_err_and}
use Rattle.ix_parse.specs.Reading.{run_list_at}
use Rattle.ix_parse.proofs.Lists.{goes_on, ends, is_done, push_found, all_push}
use Rattle.ix_parse.proofs.reading.read_run_list.Goals as goal

pub returns-in_err-next-clause-gives : goal.returns-in_err-next-clause-gives
returns-in_err-next-clause-gives c =
    let p = err_from_is_err_and c.from_residual.result c.from_residual.ensures.1 in
    rw (p.1, p.2) (ends c.in_err-next.field-0.0 c.loop.list c.args.count c.loop.counter c.loop.rest.now
    (run_list_at c.args.count c.args.bytes.now) c.loop-test.true c.in_err-next.ensures.gives c.loop.invariant.gives)

pub loop-preserved : goal.loop-preserved
loop-preserved c =
    let is = c.in_ok-push.ensures.ok in
    record {
      gives = rw is (goes_on c.loop.list c.args.count c.loop.counter c.loop.rest.now c.in_ok-next.next c.in_ok-next.after.now
          (run_list_at c.args.count c.args.bytes.now) c.loop-test.true c.in_ok-next.ensures.gives c.loop.invariant.gives);
      found = rw is (push_found c.loop.list c.in_ok-next.next c.args.bytes.now c.loop.rest.now c.in_ok-next.after.now c.loop.invariant.found
          c.in_ok-next.ensures.found.0);
      counted = rw is (omega (arith, length-append c.loop.list (c.in_ok-next.next ∷ []), c.loop.invariant.counted));
      each = rw is (all_push c.loop.list c.in_ok-next.next c.loop.invariant.each c.in_ok-next.ensures.found.1);
    }

pub returns-clause-gives : goal.returns-clause-gives
returns-clause-gives c = is_done c.loop.list c.args.count c.loop.counter c.loop.rest.now (run_list_at c.args.count c.args.bytes.now)
    c.loop-test.false c.loop.invariant.gives
