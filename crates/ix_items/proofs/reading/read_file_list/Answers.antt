use Rattle.std.proofs.Common.{◌∷◌, [], arith, length-append}
use Rattle.std.proofs.lemmas.Result.{err_from_is_err_and}
use Rattle.ix_coding.specs.Spelling.{Is64}
use Rattle.ix_items.specs.Spelling.{file_bytes}
use Rattle.ix_items.specs.Reading.{list_at, file_at}
use Rattle.ix_items.proofs.Lists.{goes_on, ends, is_done, push_found, all_push}
use Rattle.ix_items.proofs.reading.read_file_list.Goals as goal

pub returns-in_err-file-clause-gives : goal.returns-in_err-file-clause-gives
returns-in_err-file-clause-gives c =
    let p = err_from_is_err_and c.from_residual.result c.from_residual.ensures.1 in
    rw (p.1, p.2) (ends file_at c.in_err-file.field-0.0 c.loop.list c.args.count c.loop.counter c.loop.rest.now
    (list_at file_at c.args.count c.args.bytes.now) c.loop-test.true c.in_err-file.ensures.gives c.loop.invariant.gives)

pub loop-preserved : goal.loop-preserved
loop-preserved c =
    let is = c.in_ok-push.ensures.ok in
    record {
      gives = rw is (goes_on file_at c.loop.list c.args.count c.loop.counter c.loop.rest.now c.in_ok-file.file c.in_ok-file.after.now
          (list_at file_at c.args.count c.args.bytes.now) c.loop-test.true c.in_ok-file.ensures.gives c.loop.invariant.gives);
      found = rw is (push_found file_bytes c.loop.list c.in_ok-file.file c.args.bytes.now c.loop.rest.now c.in_ok-file.after.now
          c.loop.invariant.found c.in_ok-file.ensures.found);
      counted = rw is (omega (arith, length-append c.loop.list (c.in_ok-file.file ∷ []), c.loop.invariant.counted));
      ranged = rw is (all_push (λ f. Is64 f.number) c.loop.list c.in_ok-file.file c.loop.invariant.ranged c.in_ok-file.ensures.ranged);
    }

pub returns-clause-gives : goal.returns-clause-gives
returns-clause-gives c = is_done file_at c.loop.list c.args.count c.loop.counter c.loop.rest.now
    (list_at file_at c.args.count c.args.bytes.now) c.loop-test.false c.loop.invariant.gives
