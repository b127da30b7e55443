-- What is worked out of indexes, files and the ledger, for a command that may come.
use Rattle.std.proofs.Common.{◌≡◌, ℤ, List, [], ◌∷◌, ◌++◌, sym, ap, ◌∙◌, subst}
use Rattle.ix_base.specs.declared.events.Routed.{Routed}
use Rattle.ix_items.specs.declared.items.Entry.{Entry}
use Rattle.ix_life.specs.declared.sets.LimitSet.{LimitSet}
use Rattle.ix_model.specs.Bounds.{KeepsBounds}
use Rattle.ix_model.specs.Given.{Chooser}
use Rattle.ix_model.specs.Step as machine
use Rattle.ix_model.specs.Step.{state_after}
use Rattle.ix_model.specs.declared.commands.Command.{Command}
use Rattle.ix_model.specs.declared.commands.TimedCommand.{TimedCommand}
use Rattle.ix_effects.specs.Moving.{Precedes, Premise, Moves, IsMoved, IsDealing, deals}
use Rattle.ix_effects.specs.Moving as moving
use Rattle.ix_effects.specs.declared.catalog_effect.Base.{Base}
use Rattle.ix_effects.specs.declared.catalog_effect.CatalogEffect.{CatalogEffect}
use Rattle.ix_model.specs.Shelved.{IsSet}
use Rattle.ix_state.specs.Held.{SeesBeside}
use Rattle.ix_state.specs.declared.state.CatalogState.{CatalogState}
use Rattle.ix_apply.specs.Steps.{MayCome, order_of, IsBase, IsOver, WorksOut}
use Rattle.ix_apply.specs.declared.context.CommandContext.{CommandContext}

precedes : (choose : Chooser) (history : List TimedCommand) (command : Command) (given : ℤ) (w : CommandContext) (base : Base) →
    IsBase w base →
    MayCome choose history (order_of command given) w → Precedes choose history (order_of command given) base
precedes choose history command given w base b h = record {
  sees = subst (λ (l : List Entry). SeesBeside (state_after choose history) l base.storage.now) (sym b.ledger)
      (subst (SeesBeside (state_after choose history) w.held.now.view.ledger) (sym b.storage) h.stands.rest);
  set_is = subst (IsSet (state_after choose history).force) (sym b.set) h.stands.channels.set;
  moment_is = b.moment_is ∙ h.moment_is;
  accepted = h.no_cause;
}

-- the premise holds wherever the command may come
abbrev pub Meets : Premise → Command → CommandContext → Type 0
Meets premise command w = (choose : Chooser) (history : List TimedCommand) (given : ℤ) → MayCome choose history (order_of command given) w →
    premise choose history (order_of command given)

pub moved_at : (premise : Premise) (command : Command) (w : CommandContext) (base : Base) (moved : CatalogEffect) → IsBase w base →
    Meets premise command w → Moves premise base moved →
    (choose : Chooser) (history : List TimedCommand) (given : ℤ) → MayCome choose history (order_of command given) w →
    IsMoved choose history (order_of command given) w.held.now.view.ledger w.moment moved
moved_at premise command w base moved b meets leads choose history given h =
    subst (λ (l : List Entry). IsMoved choose history (order_of command given) l w.moment moved) b.ledger
    (subst (λ (z : ℤ). IsMoved choose history (order_of command given) base.ledger.now z moved) b.moment_is
    (leads choose history (order_of command given) (precedes choose history command given w base b h) (meets choose history given h)))

pub over_at : (premise : Premise) (command : Command) (w : CommandContext) (base : Base) → IsBase w base → Meets premise command w →
    moving.IsOver premise base → IsOver command w
over_at premise command w base b meets over choose history given h before behind =
    over choose history (order_of command given) (precedes choose history command given w base b h) (meets choose history given h) before
    behind

pub meets_deals : (command : Command) (w : CommandContext) (base : Base) (outcomes : List Routed) → IsBase w base → IsDealing command →
    ((choose : Chooser) (history : List TimedCommand) (given : ℤ) → MayCome choose history (order_of command given) w →
    outcomes ≡ machine.outcomes choose (state_after choose history) command w.moment) →
    Meets (deals base outcomes) command w
meets_deals command w base outcomes b dealing are choose history given h =
    (dealing, are choose history given h ∙ ap (λ (z : ℤ). machine.outcomes choose (state_after choose history) command z) (sym b.moment_is))
