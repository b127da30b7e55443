use Rattle.std.proofs.Common.{◌≡◌, ℤ, w64, ap, subst, ◌∙◌}
use Rattle.std.proofs.lemmas.Int.{to_z-of_z}
use Rattle.ix_base.specs.declared.events.ChannelMeta.{ChannelMeta}
use Rattle.ix_base.specs.declared.events.Event.{Event}
use Rattle.ix_model.specs.Step.{direct_event}
use Rattle.ix_props.specs.Settings.{AreSettings}
use Rattle.ix_transforms.specs.Changes.{changed}
use Rattle.ix_transforms.specs.Sizes.{HasSizes}
use Rattle.ix_channels.specs.Begun.{resolved}
use Rattle.ix_channels.proofs.PutLemmas.{all_at}
use Rattle.ix_channels.proofs.putting.put.Goals as goal

pub apply-requires : goal.apply-requires
apply-requires c =
    let usable = c.in_ok-settings.ensures.usable in
    record {
      seds = all_at _ c.in_ok-settings.settings.seds usable.seds;
      transforms = all_at _ c.in_ok-settings.settings.transforms usable.transforms;
    }

pub returns : goal.returns
returns c =
    let config = c.args.config.now in
    let direct = c.args.direct in
    let settings = c.in_ok-settings.settings in
    let whole = resolved config.limits direct.meta in
    let event_is : c.in_ok-event.event ≡ direct_event settings whole c.args.moment direct =
    c.in_ok-event.ensures ∙ ap (λ (z : ℤ). direct_event settings c.in_ok-meta.meta z direct) (to_z-of_z w64 c.args.moment c.ranges.moment)
    ∙ ap (λ (m : ChannelMeta). direct_event settings m c.args.moment direct) c.in_ok-meta.ensures in
    record {
      settings = settings;
      chosen = subst (λ (m : ChannelMeta). AreSettings config.props m settings) c.in_ok-meta.ensures c.in_ok-settings.ensures.chosen;
      routed_is = c.in_ok-routed.ensures.changed ∙ ap (changed settings.seds settings.transforms) event_is;
      sizes = subst (λ (e : Event). HasSizes e c.in_ok-routed.routed) event_is c.in_ok-routed.ensures.sizes;
    }
