use Rattle.std.proofs.Common.{ap, refl}
use Rattle.ix_catalog.specs.Shelves.{with_indexes}
use Rattle.ix_catalog.specs.Turning.{rolled_index}
use Rattle.ix_catalog.proofs.PlaceLemmas.{changed_at}
use Rattle.ix_catalog.proofs.rolling.roll.Goals as goal

pub returns-in-Some-clause-shelves : goal.returns-in-Some-clause-shelves
returns-in-Some-clause-shelves c =
    ap (λ is. with_indexes is c.args.shelves.now.next_file c.args.shelves.now)
    (changed_at c.args.index.now _ c.args.shelves.now.indexes _ c.roll_at.new.indexes c.in-Some.at rolled_index refl c.as_slice.ensures
    c.in-Some.ensures.some
    c.roll_at.ensures.indexes)
