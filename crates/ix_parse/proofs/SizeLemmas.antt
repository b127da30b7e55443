-- How large what a channel settles is.
use Rattle.std.proofs.Common.{◌≡◌, ℕ, ◌≤◌, ℤ, List, [], length, Option, Some, None, subst, arith}
use Rattle.std.specs.Prelude.{IfSome, unwrap_or}
use Rattle.ix_base.specs.declared.events.ChannelMeta.{ChannelMeta}
use Rattle.ix_base.specs.declared.events.Event.{Event}
use Rattle.ix_base.specs.declared.events.Routed.{Routed}
use Rattle.ix_base.specs.declared.events.Routed.TheVariants.{To, Null}
use Rattle.ix_merge.specs.declared.events.Whole.{Whole}
use Rattle.ix_props.specs.declared.settings.Settings.{Settings}
use Rattle.ix_transforms.specs.Sizes.{KeepsSizes, HasSizes}
use Rattle.ix_parse.specs.Settled.{event_of}
use Rattle.ix_parse.specs.Limits.{KeepsLimits, IsSmall}

stated : (name : Option (List ℕ)) → IfSome name (λ n. length n ≤ 1024) → length (unwrap_or name []) ≤ 1024
stated None k = omega arith
stated (Some name) k = k

-- an event as it comes to the changes keeps the sizes that these keep
kept : (s : Settings) (meta : ChannelMeta) (time : ℤ) (event : Whole) → KeepsLimits s meta →
    KeepsSizes (event_of s.sourcetype meta time event)
kept s meta time event limits = record {
  index = omega (arith, stated meta.index limits.index);
  host = omega (arith, limits.host);
  source = limits.source;
  sourcetype = omega (arith, limits.sourcetype);
  meta = omega arith;
}

small : (s : Settings) (meta : ChannelMeta) (time : ℤ) (event : Whole) (routed : Routed) → KeepsLimits s meta →
    HasSizes (event_of s.sourcetype meta time event) routed → IsSmall routed
small s meta time event Null limits sizes = tt
small s meta time event (To e) limits sizes =
    let k : KeepsSizes e = sizes.1 (kept s meta time event limits) in
    let raw : length e.raw ≤ 8388608 = sizes.0 in
    omega (arith, raw, k.index, k.host, k.source, k.sourcetype, k.meta)

-- what an event comes to that had the fields of a channel within its limits
pub small-outcome : (s : Settings) (meta : ChannelMeta) (time : ℤ) (event : Whole) (e : Event) (routed : Routed) →
    e ≡ event_of s.sourcetype meta time event → HasSizes e routed → KeepsLimits s meta → IsSmall routed
small-outcome s meta time event e routed is sizes limits =
    small s meta time event routed limits (subst (λ (x : Event). HasSizes x routed) is sizes)
