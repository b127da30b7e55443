use Rattle.std.proofs.Common.{ap, ◌∙◌, ℕ, ◌++◌}
use Rattle.ix_coding.specs.Spelling.{four}
use Rattle.ix_bucket.proofs.Sizes.{joined}
use Rattle.ix_bucket.proofs.writing.put_record.Goals as goal

pub returns-clause-ok : goal.returns-clause-ok
returns-clause-ok c =
    joined c.args.event.now c.args.out.now _ _ _
    (c.in_ok-put_u32.ensures.ok ∙ ap (λ (n : ℕ). c.args.out.now ++ four n) c.size_of.ensures)
    c.in_ok-put_first_fields.ensures.ok c.in_ok-put_last_fields.ensures.ok
