use Rattle.ix_base.specs.declared.events.ChannelMeta.{ChannelMeta}
use Rattle.ix_items.proofs.Rows.{meta_found}
use Rattle.ix_items.proofs.fields.read_meta.Goals as goal

pub returns-clause-found : goal.returns-clause-found
returns-clause-found c =
    let host = c.in_ok-host.ensures.found in
    let source = c.in_ok-source.ensures.found in
    let sourcetype = c.in_ok-sourcetype.ensures.found in
    let index = c.in_ok-index.ensures.found in
    let meta : ChannelMeta = record {
      host = c.in_ok-host.host;
      source = c.in_ok-source.source;
      sourcetype = c.in_ok-sourcetype.sourcetype;
      index = c.in_ok-index.index;
    } in (
      meta_found meta _ _ _ _ _ host.0 source.0 sourcetype.0 index.0,
      record { host = host.1; source = source.1; sourcetype = sourcetype.1; index = index.1 },
    )
