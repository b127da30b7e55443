use Rattle.std.proofs.Common.{ℕ, ap, ◌∙◌}
use Rattle.std.specs.List.{insert}
use Rattle.ix_state.specs.declared.state.OpenChannel.{OpenChannel}
use Rattle.ix_channels.specs.Places.{place_for}
use Rattle.ix_channels.proofs.beginning.opens.Goals as goal

pub returns-clause-changed : goal.returns-clause-changed
returns-clause-changed c =
    let channels = c.args.channels.now.items in
    let name = c.args.begun.name in
    let place = c.place_for-at.ensures.value ∙ ap (λ n. place_for n c.as_slice.result.now) c.as_slice-2.ensures
    ∙ ap (place_for name) c.as_slice.ensures.value in
    ap (λ (k : ℕ). insert channels k c.in_ok-room.room.value) (c.in_ok-room.ensures.at ∙ place)
    ∙ ap (λ (o : OpenChannel). insert channels (place_for name channels) o) c.in_ok-room.ensures.value
