use Rattle.std.proofs.Common.{◌≡◌, ◌+◌, ◌*◌, length, arith, sym, ◌∙◌}
use Rattle.ix_catalog.proofs.Sizes.{numbered_size, plain_size}
use Rattle.ix_catalog.proofs.measures.index_size.Goals as goal

pub returns-then-has_number : goal.returns-then-has_number
returns-then-has_number c =
    let size = numbered_size c.args.ledger.now c.args.view.now (sym c.has_number.ensures ∙ c.if-has_number.true) in
    let product : c.len.result * (71 + c.len-name.result) ≡ length c.args.view.now.buckets * (71 + length c.args.view.now.name) =
    λ i. c.len.ensures i * (71 + c.len-name.ensures i) in
    omega (arith, size, product, c.saturating_mul-buckets.ensures, c.saturating_add.ensures)

pub returns-else-has_number : goal.returns-else-has_number
returns-else-has_number c =
    let size = plain_size c.args.ledger.now c.args.view.now (sym c.has_number.ensures ∙ c.if-has_number.false) in
    let product : c.len.result * (71 + c.len-name.result) ≡ length c.args.view.now.buckets * (71 + length c.args.view.now.name) =
    λ i. c.len.ensures i * (71 + c.len-name.ensures i) in
    omega (arith, size, product, c.saturating_mul-buckets.ensures)
