use Rattle.std.proofs.Common.{[], subst}
use Rattle.std.proofs.lemmas.Result.{IfOk-weaker}
use Rattle.ix_base.specs.declared.events.ChannelMeta.{ChannelMeta}
use Rattle.ix_parse.specs.Standing.{StandsFor}
use Rattle.ix_channels.proofs.beginning.started.Goals as goal

pub returns : goal.returns
returns c =
    IfOk-weaker c.start.result _ _
    (λ channel stands. record {
      settings = c.in_ok-settings.settings;
      chosen = c.in_ok-settings.ensures.chosen;
      usable = c.in_ok-settings.ensures.usable;
      stands = subst (λ (m : ChannelMeta). StandsFor c.in_ok-settings.settings m [] channel) c.in_ok-stated.ensures stands;
    })
    c.start.ensures
