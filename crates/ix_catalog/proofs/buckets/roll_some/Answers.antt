use Rattle.std.proofs.Common.{Some, sym, subst, List}
use Rattle.std.specs.List.{AllByRecursion}
use Rattle.ix_items.specs.declared.items.Bucket.{Bucket}
use Rattle.ix_catalog.specs.Numbers.{KeepsBucket}
use Rattle.ix_catalog.proofs.Keeps.{roll_keeps}
use Rattle.ix_catalog.proofs.buckets.roll_some.Goals as goal

pub returns-in-Some-clause-kept : goal.returns-in-Some-clause-kept
returns-in-Some-clause-kept c = λ h.
    subst (λ (bs : List Bucket). AllByRecursion KeepsBucket bs) (sym c.roll.ensures) (roll_keeps (Some c.in-Some.id) c.args.buckets.now h)
