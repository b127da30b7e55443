use Rattle.std.proofs.Common.{refl}
use Rattle.ix_items.proofs.Rows.{channel_found}
use Rattle.ix_items.proofs.reading.read_channel.Goals as goal

pub returns-clause-found : goal.returns-clause-found
returns-clause-found c =
    let name = c.in_ok-name.ensures.found in
    let meta = c.in_ok-meta.ensures.found in
    let carry = c.in_ok-carry.ensures.found in
    (refl, channel_found c.in_ok-name.name c.in_ok-meta.meta c.in_ok-carry.carry _ _ _ _ name.0 meta.0 carry.0, (name.1, meta.1, carry.1))
