use Rattle.std.proofs.Common.{ℕ, List, ap, ◌∙◌}
use Rattle.std.specs.Prelude.{is_some}
use Rattle.ix_model.specs.State.{life_in}
use Rattle.ix_model.specs.Step.{state_after}
use Rattle.ix_watch.specs.Watching.{channel_of}
use Rattle.ix_pass.proofs.visiting.is_open_in.Goals as goal

pub returns : goal.returns
returns g c = λ choose history base k old staged.
    c.has_channel.ensures choose history base k old staged
    ∙ ap (λ (n : List ℕ). is_some (life_in (state_after choose history) n)) (c.as_slice-2.ensures ∙ c.in_ok-name.ensures
    ∙ ap channel_of c.as_slice.ensures)
