use Rattle.std.proofs.Common.{refl}
use Rattle.ix_conf.specs.Lent.{item_entry}
use Rattle.ix_props.specs.Values.{RefusesBreaker}
use Rattle.ix_props.proofs.ValueLemmas.{refuses}
use Rattle.ix_props.proofs.values.bad_breaker.Goals as goal

pub returns : goal.returns
returns c = refuses (λ f. RefusesBreaker (item_entry c.args.item) f) c.bad_pattern.result _ c.bad_pattern.ensures (
  refl,
  refl,
  c.requires,
) tt
