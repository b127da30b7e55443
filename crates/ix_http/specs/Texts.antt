-- The metadata that texts of a body stand for.
use Rattle.std.specs.Prelude.{option_map}
use Rattle.ix_base.specs.declared.events.ChannelMeta.{ChannelMeta}
use Rattle.ix_http.specs.declared.bodies.Texts.{Texts}

abbrev pub texts_meta : Texts → ChannelMeta
texts_meta t = record {
  host = t.host.now;
  source = t.source.now;
  sourcetype = option_map (λ s. s.now) t.sourcetype;
  index = option_map (λ s. s.now) t.index;
}
