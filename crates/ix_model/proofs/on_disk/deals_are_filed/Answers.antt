use Rattle.std.proofs.Common.{refl}
use Rattle.ix_model.specs.State.{State, empty}
use Rattle.ix_model.specs.Step.{state_after}
use Rattle.ix_model.proofs.Ascending.{in_order_after}
use Rattle.ix_model.proofs.Ledgers.{all_after}
use Rattle.ix_model.proofs.Renewing.{behind_after}
use Rattle.ix_model.specs.Contents.{contents_of}
use Rattle.ix_model.specs.OnDisk.{begun}
use Rattle.ix_model.proofs.DealtFiles.{deals_lead}
use Rattle.ix_model.proofs.on_disk.deals_are_filed.Goals as goal

pub returns : goal.returns
returns c = λ choose history set moment outcomes i.
    (let m : State = state_after choose history in
    let l = deals_lead m.force set moment m.catalog.ledger (contents_of m.catalog) m.catalog (begun m.force m.catalog) outcomes i
    (record {
      all = all_after choose history;
      ascending = (in_order_after choose history).indexes;
      behind = behind_after choose empty history tt;
    })
    refl refl (record { fit = tt; lead = λ file bytes e. e }) in
    record { fit = l.fit; lead = l.lead })
