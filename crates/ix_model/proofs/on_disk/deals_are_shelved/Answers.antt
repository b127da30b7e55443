use Rattle.std.proofs.Common.{refl}
use Rattle.ix_model.specs.State.{State}
use Rattle.ix_model.specs.Step.{state_after}
use Rattle.ix_model.proofs.Ascending.{in_order_after}
use Rattle.ix_model.proofs.Ledgers.{all_after}
use Rattle.ix_model.specs.OnDisk.{begun}
use Rattle.ix_model.proofs.DealtShelves.{deals_same}
use Rattle.ix_model.proofs.on_disk.deals_are_shelved.Goals as goal

pub returns : goal.returns
returns c = λ choose history set moment outcomes i.
    (let m : State = state_after choose history in
    deals_same m.force set moment m.catalog.ledger m.catalog (begun m.force m.catalog) outcomes i
    (all_after choose history) (in_order_after choose history).indexes refl refl)
