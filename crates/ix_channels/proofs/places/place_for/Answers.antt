use Rattle.std.proofs.Common.{sym}
use Rattle.std.specs.Prelude.{not}
use Rattle.ix_state.specs.declared.state.OpenChannel.{OpenChannel}
use Rattle.ix_channels.specs.Places.{is_before}
use Rattle.ix_channels.proofs.Channels.{found_none}
use Rattle.ix_channels.proofs.places.place_for.Goals as goal

pub returns-in-None-clause-value : goal.returns-in-None-clause-value
returns-in-None-clause-value c = found_none (λ (o : OpenChannel). not (is_before c.args.name.now o)) c.args.channels.now
    (sym c.in-None.ensures.value)
