use Rattle.std.proofs.Common.{◌≡◌, length, length-append, ap, arith}
use Rattle.std.proofs.lemmas.Result.{err_from_is_err_and}
use Rattle.ix_items.specs.declared.items.ItemFault.TheVariants.{BadItem}
use Rattle.ix_items.specs.Spelling.{item_bytes}
use Rattle.ix_items.proofs.RowsAgain.{none_at, one_at, fails_bad, item_found}
use Rattle.ix_items.proofs.reading.read_item.Goals as goal

pub returns-in_err-item-clause-none : goal.returns-in_err-item-clause-none
returns-in_err-item-clause-none c = λ bad item rest has is.
    let p = err_from_is_err_and c.from_residual.result c.from_residual.ensures.1 in
    let p1 = p.1 in
    let p2 = p.2 in
    let e : c.in_err-item.field-0.0 ≡ BadItem = cc in
    none_at item rest c.args.bytes.now has is (fails_bad c.in_err-item.field-0.0 _ e c.in_err-item.ensures.gives)

pub returns-clause-again : goal.returns-clause-again
returns-clause-again c = λ item rest has is.
    let one = one_at item c.in_ok-item.item rest c.in_ok-item.rest.now c.args.bytes.now has is c.in_ok-item.ensures.gives in
    (one.0, omega (arith, ap length is, length-append (item_bytes item) rest, ap length one.1))

pub returns-clause-found : goal.returns-clause-found
returns-clause-found c =
    let found = c.in_ok-item.ensures.found in
    let parts = item_found c.in_ok-item.item c.args.bytes.now c.in_ok-item.rest.now found.0 in
    (parts.0, parts.1, parts.2, record { writable = found.1; in_range = c.in_ok-item.ensures.ranged })
