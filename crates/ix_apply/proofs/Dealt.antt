-- What was dealt of the outcomes of a command leads, joined, to the state behind it.
use Rattle.ix_channels.specs.declared.channel_effect.ChannelEffect.{ChannelEffect}
use Rattle.ix_effects.specs.Moving as moving
use Rattle.ix_effects.specs.Moving.{Moves, deals}
use Rattle.ix_effects.specs.declared.catalog_effect.Base.{Base}
use Rattle.ix_effects.specs.declared.catalog_effect.CatalogEffect.{CatalogEffect}
use Rattle.ix_apply.specs.Dealing.{Deals, CannotDeal}
use Rattle.ix_apply.specs.Steps.{IsBase, step_with}
use Rattle.ix_apply.specs.declared.effect.Beside.{Beside}
use Rattle.ix_apply.specs.declared.context.CommandContext.{CommandContext}
use Rattle.ix_apply.proofs.Moving.{meets_deals, moved_at, over_at}
use Rattle.ix_apply.proofs.Stepping.{worked_steps}

pub dealt_over : (w : CommandContext) (base : Base) (worked : ChannelEffect) → IsBase w base →
    moving.IsOver (deals base worked.outcomes) base → CannotDeal w worked
dealt_over w base worked b over = record {
  over = λ command dealing works. over_at (deals base worked.outcomes) command w base b
      (meets_deals command w base worked.outcomes b dealing (λ choose history given h. (works choose history given h).outcomes)) over;
}

pub dealt_steps : (w : CommandContext) (base : Base) (worked : ChannelEffect) (moved : CatalogEffect) (beside : Beside) → IsBase w base →
    Moves (deals base worked.outcomes) base moved →
    Deals w worked beside (step_with moved worked.change worked.items beside)
dealt_steps w base worked moved beside b moves = record {
  steps = λ command dealing is works choose history given h.
      worked_steps choose history command given w worked moved beside h (works choose history given h)
      (moved_at (deals base worked.outcomes) command w base moved b
      (meets_deals command w base worked.outcomes b dealing (λ choose history given h. (works choose history given h).outcomes))
      moves choose history given h) is;
}
