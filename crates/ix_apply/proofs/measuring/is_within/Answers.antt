use Rattle.std.proofs.Common.{refl, sym}
use Rattle.ix_apply.specs.Seen.{parts_of}
use Rattle.ix_apply.proofs.measuring.is_within.Goals as goal

pub returns : goal.returns
returns c = c.keeps_bounds.ensures (parts_of c.args.held.now c.args.next.now)
    (record {
      kept_are = sym c.kept_behind-kept.ensures;
      channels_are = c.channels_behind-channels.ensures;
      spots_are = c.spots_behind-spots.ensures;
      shelves_are = refl;
      ledger_is = sym c.ledger_behind-ledger.ensures;
    })
