use Rattle.std.proofs.Common.{ℕ, List, ap, sym}
use Rattle.std.proofs.lemmas.Result.{err_from_is_err_and}
use Rattle.ix_items.specs.declared.items.Item.TheVariants as items
use Rattle.ix_items.specs.Spelling.{field_bytes}
use Rattle.ix_items.specs.Reading.{made, fields_at}
use Rattle.ix_items.proofs.Lists.{fails_made}
use Rattle.ix_items.proofs.reading.read_fields.Goals as goal

pub returns-in_ok-kept-in-1-clause-gives : goal.returns-in_ok-kept-in-1-clause-gives
unfolding fields_at
returns-in_ok-kept-in-1-clause-gives c = rw c.in-1.is (ap (made items.Settings) c.in_ok-kept-in-1.ensures.gives)

pub returns-in_ok-run-in-2-clause-gives : goal.returns-in_ok-run-in-2-clause-gives
unfolding fields_at
returns-in_ok-run-in-2-clause-gives c = rw c.in-2.is (ap (made items.Run) c.in_ok-run-in-2.ensures.gives)

pub returns-in_ok-name-in-5-clause-gives : goal.returns-in_ok-name-in-5-clause-gives
unfolding fields_at
returns-in_ok-name-in-5-clause-gives c = rw c.in-5.is (ap (made items.Ended) c.in_ok-name-in-5.ensures.gives)

pub returns-in_ok-index-in-7-clause-gives : goal.returns-in_ok-index-in-7-clause-gives
unfolding fields_at
returns-in_ok-index-in-7-clause-gives c = rw c.in-7.is (ap (made (λ (x : List ℕ × ℕ). items.Gone x.0 x.1)) c.in_ok-index-in-7.ensures.gives)

pub returns-in_ok-entry-in-8-clause-gives : goal.returns-in_ok-entry-in-8-clause-gives
unfolding fields_at
returns-in_ok-entry-in-8-clause-gives c = rw c.in-8.is (ap (made items.Ledger) c.in_ok-entry-in-8.ensures.gives)

pub returns-in_ok-spot-in-10-clause-gives : goal.returns-in_ok-spot-in-10-clause-gives
unfolding fields_at
returns-in_ok-spot-in-10-clause-gives c = rw c.in-10.is (ap (made items.Spot) c.in_ok-spot-in-10.ensures.gives)

pub returns-in_ok-number-in-11-clause-gives : goal.returns-in_ok-number-in-11-clause-gives
unfolding fields_at
returns-in_ok-number-in-11-clause-gives c = rw c.in-11.is (ap (made items.NextFile) c.in_ok-number-in-11.ensures.gives)

pub returns-in_ok-files-in-12-clause-gives : goal.returns-in_ok-files-in-12-clause-gives
unfolding fields_at
returns-in_ok-files-in-12-clause-gives c = rw c.in-12.is (ap (made items.Removals) c.in_ok-files-in-12.ensures.gives)

pub returns-in_ok-index-in-13-clause-gives : goal.returns-in_ok-index-in-13-clause-gives
unfolding fields_at
returns-in_ok-index-in-13-clause-gives c = rw c.in-13.is
    (ap (made (λ (x : List ℕ × ℕ). items.NextId x.0 x.1)) c.in_ok-index-in-13.ensures.gives)

pub returns-in-3-clause-gives : goal.returns-in-3-clause-gives
unfolding fields_at
returns-in-3-clause-gives c = rw c.in-3.is c.read_moments.ensures.gives

pub returns-in-4-clause-gives : goal.returns-in-4-clause-gives
unfolding fields_at
returns-in-4-clause-gives c = rw c.in-4.is c.read_channel.ensures.gives

pub returns-in-6-clause-gives : goal.returns-in-6-clause-gives
unfolding fields_at
returns-in-6-clause-gives c = rw c.in-6.is c.read_in_index.ensures.gives

pub returns-in-9-clause-gives : goal.returns-in-9-clause-gives
unfolding fields_at
returns-in-9-clause-gives c = rw c.in-9.is c.read_counts.ensures.gives

pub returns-in_err-kept-in-1-clause-gives : goal.returns-in_err-kept-in-1-clause-gives
unfolding fields_at
returns-in_err-kept-in-1-clause-gives c =
    let p = err_from_is_err_and c.from_residual.result c.from_residual.ensures.1 in
    rw (p.1, p.2, c.in-1.is) (fails_made items.Settings c.in_err-kept-in-1.field-0.0 _ c.in_err-kept-in-1.ensures.gives)

pub returns-in_err-run-in-2-clause-gives : goal.returns-in_err-run-in-2-clause-gives
unfolding fields_at
returns-in_err-run-in-2-clause-gives c =
    let p = err_from_is_err_and c.from_residual-in_err-run-in-2.result c.from_residual-in_err-run-in-2.ensures.1 in
    rw (p.1, p.2, c.in-2.is) (ap (made items.Run) c.in_err-run-in-2.ensures.gives)

pub returns-in_err-name-in-5-clause-gives : goal.returns-in_err-name-in-5-clause-gives
unfolding fields_at
returns-in_err-name-in-5-clause-gives c =
    let p = err_from_is_err_and c.from_residual-in_err-name-in-5.result c.from_residual-in_err-name-in-5.ensures.1 in
    rw (p.1, p.2, c.in-5.is) (fails_made items.Ended c.in_err-name-in-5.field-0.0 _ c.in_err-name-in-5.ensures.gives)

pub returns-in_err-index-in-7-clause-gives : goal.returns-in_err-index-in-7-clause-gives
unfolding fields_at
returns-in_err-index-in-7-clause-gives c =
    let p = err_from_is_err_and c.from_residual-in_err-index-in-7.result c.from_residual-in_err-index-in-7.ensures.1 in
    rw (p.1, p.2, c.in-7.is) (fails_made (λ (x : List ℕ × ℕ). items.Gone x.0 x.1) c.in_err-index-in-7.field-0.0 _
    c.in_err-index-in-7.ensures.gives)

pub returns-in_err-entry-in-8-clause-gives : goal.returns-in_err-entry-in-8-clause-gives
unfolding fields_at
returns-in_err-entry-in-8-clause-gives c =
    let p = err_from_is_err_and c.from_residual-in_err-entry-in-8.result c.from_residual-in_err-entry-in-8.ensures.1 in
    rw (p.1, p.2, c.in-8.is) (fails_made items.Ledger c.in_err-entry-in-8.field-0.0 _ c.in_err-entry-in-8.ensures.gives)

pub returns-in_err-spot-in-10-clause-gives : goal.returns-in_err-spot-in-10-clause-gives
unfolding fields_at
returns-in_err-spot-in-10-clause-gives c =
    let p = err_from_is_err_and c.from_residual-in_err-spot-in-10.result c.from_residual-in_err-spot-in-10.ensures.1 in
    rw (p.1, p.2, c.in-10.is) (fails_made items.Spot c.in_err-spot-in-10.field-0.0 _ c.in_err-spot-in-10.ensures.gives)

pub returns-in_err-number-in-11-clause-gives : goal.returns-in_err-number-in-11-clause-gives
unfolding fields_at
returns-in_err-number-in-11-clause-gives c =
    let p = err_from_is_err_and c.from_residual-in_err-number-in-11.result c.from_residual-in_err-number-in-11.ensures.1 in
    rw (p.1, p.2, c.in-11.is) (ap (made items.NextFile) c.in_err-number-in-11.ensures.gives)

pub returns-in_err-files-in-12-clause-gives : goal.returns-in_err-files-in-12-clause-gives
unfolding fields_at
returns-in_err-files-in-12-clause-gives c =
    let p = err_from_is_err_and c.from_residual-in_err-files-in-12.result c.from_residual-in_err-files-in-12.ensures.1 in
    rw (p.1, p.2, c.in-12.is) (fails_made items.Removals c.in_err-files-in-12.field-0.0 _ c.in_err-files-in-12.ensures.gives)

pub returns-in_err-index-in-13-clause-gives : goal.returns-in_err-index-in-13-clause-gives
unfolding fields_at
returns-in_err-index-in-13-clause-gives c =
    let p = err_from_is_err_and c.from_residual-in_err-index-in-13.result c.from_residual-in_err-index-in-13.ensures.1 in
    rw (p.1, p.2, c.in-13.is) (fails_made (λ (x : List ℕ × ℕ). items.NextId x.0 x.1) c.in_err-index-in-13.field-0.0 _
    c.in_err-index-in-13.ensures.gives)

pub returns-in_ok-kept-in-1-clause-found : goal.returns-in_ok-kept-in-1-clause-found
unfolding field_bytes
returns-in_ok-kept-in-1-clause-found c = (
  sym c.in-1.is,
  c.in_ok-kept-in-1.ensures.found.0,
  (c.in_ok-kept-in-1.ensures.found.1, c.in_ok-kept-in-1.ensures.found.2),
)

pub returns-in_ok-run-in-2-clause-found : goal.returns-in_ok-run-in-2-clause-found
unfolding field_bytes
returns-in_ok-run-in-2-clause-found c = (sym c.in-2.is, c.in_ok-run-in-2.ensures.found, tt)

pub returns-in_ok-name-in-5-clause-found : goal.returns-in_ok-name-in-5-clause-found
unfolding field_bytes
returns-in_ok-name-in-5-clause-found c = (sym c.in-5.is, c.in_ok-name-in-5.ensures.found.0, c.in_ok-name-in-5.ensures.found.1)

pub returns-in_ok-index-in-7-clause-found : goal.returns-in_ok-index-in-7-clause-found
unfolding field_bytes
returns-in_ok-index-in-7-clause-found c = (sym c.in-7.is, c.in_ok-index-in-7.ensures.found.0, c.in_ok-index-in-7.ensures.found.1)

pub returns-in_ok-entry-in-8-clause-found : goal.returns-in_ok-entry-in-8-clause-found
unfolding field_bytes
returns-in_ok-entry-in-8-clause-found c = (
  sym c.in-8.is,
  c.in_ok-entry-in-8.ensures.found.0,
  (c.in_ok-entry-in-8.ensures.found.1, c.in_ok-entry-in-8.ensures.found.2),
)

pub returns-in_ok-spot-in-10-clause-found : goal.returns-in_ok-spot-in-10-clause-found
unfolding field_bytes
returns-in_ok-spot-in-10-clause-found c = (
  sym c.in-10.is,
  c.in_ok-spot-in-10.ensures.found.0,
  (c.in_ok-spot-in-10.ensures.found.1, c.in_ok-spot-in-10.ensures.found.2),
)

pub returns-in_ok-number-in-11-clause-found : goal.returns-in_ok-number-in-11-clause-found
unfolding field_bytes
returns-in_ok-number-in-11-clause-found c = (sym c.in-11.is, c.in_ok-number-in-11.ensures.found, tt)

pub returns-in_ok-files-in-12-clause-found : goal.returns-in_ok-files-in-12-clause-found
unfolding field_bytes
returns-in_ok-files-in-12-clause-found c = (sym c.in-12.is, c.in_ok-files-in-12.ensures.found.0, c.in_ok-files-in-12.ensures.found.1)

pub returns-in_ok-index-in-13-clause-found : goal.returns-in_ok-index-in-13-clause-found
unfolding field_bytes
returns-in_ok-index-in-13-clause-found c = (sym c.in-13.is, c.in_ok-index-in-13.ensures.found.0, c.in_ok-index-in-13.ensures.found.1)

pub returns-in-3-clause-found : goal.returns-in-3-clause-found
returns-in-3-clause-found c = rw c.in-3.is c.read_moments.ensures.found

pub returns-in-4-clause-found : goal.returns-in-4-clause-found
returns-in-4-clause-found c = rw c.in-4.is c.read_channel.ensures.found

pub returns-in-6-clause-found : goal.returns-in-6-clause-found
returns-in-6-clause-found c = rw c.in-6.is c.read_in_index.ensures.found

pub returns-in-9-clause-found : goal.returns-in-9-clause-found
returns-in-9-clause-found c = rw c.in-9.is c.read_counts.ensures.found
