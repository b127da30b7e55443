use Rattle.std.proofs.Common.{◌∙◌}
use Rattle.ix_catalog.specs.Buckets.{rolled}
use Rattle.ix_catalog.proofs.Updates.{skipped, changed}
use Rattle.ix_catalog.proofs.buckets.roll_at.Goals as goal

pub returns-then-bucket-id : goal.returns-then-bucket-id
returns-then-bucket-id c =
    let t = rw c.as_slice.ensures at c.if-bucket-id.true in
    skipped c.args.at c.args.id rolled c.args.buckets.now _ c.requires t

pub returns : goal.returns
returns c =
    let t = rw c.as_slice.ensures at c.if-bucket-id.false in
    let g = rw c.as_slice.ensures at c.rolled.ensures in
    c.replace.ensures.items ∙ changed c.args.at c.args.id rolled c.args.buckets.now _ c.rolled.result c.requires t g
