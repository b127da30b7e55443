-- Settings that come into force.
use Rattle.std.proofs.Common.{◌≡◌, ◌≤◌, ℕ, ℤ, List, [], ◌∷◌, ◌++◌, refl, sym, ap, ◌∙◌, subst, arith}
use Rattle.std.specs.Prelude.{All, Option, Some}
use Rattle.std.specs.List.{AllByRecursion}
use Rattle.ix_channels.specs.declared.channel_effect.ChannelEffect.{ChannelEffect}
use Rattle.ix_coding.specs.Spelling.{IsShort}
use Rattle.ix_bounds.specs.Names.{BringsLimits}
use Rattle.ix_items.specs.Spelling.{IsKept}
use Rattle.ix_items.specs.declared.items.Item.TheVariants as items
use Rattle.ix_items.specs.declared.items.Kept.{Kept}
use Rattle.ix_state.specs.Configs.{AreByFile, layer_in}
use Rattle.ix_state.specs.Taken.{IsTaken, AreGiven}
use Rattle.ix_life.proofs.RetiredLemmas.{merged_stanzas}
use Rattle.ix_model.specs.Bounds.{KeepsBounds}
use Rattle.ix_model.specs.Given.{Chooser, entries}
use Rattle.ix_model.specs.State.{State}
use Rattle.ix_model.specs.Step as machine
use Rattle.ix_model.specs.Step.{state_after}
use Rattle.ix_model.specs.declared.commands.Command.{Command}
use Rattle.ix_model.specs.declared.commands.Command.TheVariants.{Begin, Block, End, Tick, Roll, Thaw, Configure, Direct}
use Rattle.ix_model.specs.declared.commands.Config.{Config}
use Rattle.ix_model.specs.declared.commands.TimedCommand.{TimedCommand}
use Rattle.ix_effects.specs.Moving as moving
use Rattle.ix_effects.specs.Moving.{Configures, Moves}
use Rattle.ix_effects.specs.declared.catalog_effect.Base.{Base}
use Rattle.ix_effects.specs.declared.catalog_effect.CatalogEffect.{CatalogEffect}
use Rattle.ix_store.proofs.Booked.{all_more}
use Rattle.ix_apply.specs.Settings.{config_after}
use Rattle.ix_apply.specs.Spots.{placed}
use Rattle.ix_apply.specs.Steps.{MayCome, IsOver, Steps, WorksOut, order_of, step_with, IsBase}
use Rattle.ix_apply.specs.declared.spots.SpotChange.{SpotChange}
use Rattle.ix_apply.specs.declared.spots.SpotChange.TheVariants as changes
use Rattle.ix_apply.specs.declared.effect.Beside.{Beside}
use Rattle.ix_apply.specs.declared.context.CommandContext.{CommandContext}
use Rattle.ix_apply.proofs.Moving.{Meets, moved_at, over_at}
use Rattle.ix_apply.proofs.Stepping.{after_one, worked_steps}
use Rattle.ix_apply.proofs.Written.{HasFile, force_written}

-- ---- limits

brings : (command : Command) (moment : ℤ) → IsTaken (order_of command moment) → BringsLimits (order_of command moment)
brings (Begin channel meta) moment h = tt
brings (Block channel bytes spot) moment h = tt
brings (End channel) moment h = tt
brings Tick moment h = tt
brings (Roll index) moment h = tt
brings (Thaw index id) moment h = tt
brings (Configure config) moment h = h.limits
brings (Direct events) moment h = tt

all_bring : (history : List TimedCommand) → AreGiven history → AllByRecursion BringsLimits history
all_bring [] h = tt
all_bring (o ∷ history) h = (brings o.command o.moment h.0, all_bring history h.1)

ended_configures : (w : CommandContext) (base : Base) (ended : ChannelEffect) (config : Config) → IsBase w base →
    WorksOut (Configure config) w ended →
    Meets (Configures base ended.outcomes config.limits) (Configure config) w
ended_configures w base ended config b works choose history given h = record {
  config = config;
  command = refl;
  settings = record {
    stanzas = merged_stanzas (layer_in 3 config.kept ∷ []) (entries config.kept) h.taken.order.indexes;
    set_is = h.taken.limits;
  };
  limits = all_more BringsLimits history (order_of (Configure config) given ∷ []) (all_bring history h.stands.given) (h.taken.limits, tt);
  outcomes_are = (works choose history given h).outcomes
      ∙ ap (λ (z : ℤ). machine.outcomes choose (state_after choose history) (Configure config) z) (sym b.moment_is);
}

pub configured_over : (w : CommandContext) (base : Base) (ended : ChannelEffect) (config : Config) → IsBase w base →
    WorksOut (Configure config) w ended →
    moving.IsOver (Configures base ended.outcomes config.limits) base → IsOver (Configure config) w
configured_over w base ended config b works over =
    over_at (Configures base ended.outcomes config.limits) (Configure config) w base b (ended_configures w base ended config b works) over

pub configured_steps : (w : CommandContext) (base : Base) (ended : ChannelEffect) (moved : CatalogEffect) (b : Beside) (config : Config) →
    IsBase w base → WorksOut (Configure config) w ended →
    Moves (Configures base ended.outcomes config.limits) base moved →
    b.items ≡ items.Settings config.kept ∷ [] → b.config ≡ Some config → b.spot ≡ changes.Same →
    Steps (Configure config) w (step_with moved ended.change ended.items b)
configured_steps w base ended moved b config at works moves said is same choose history given h =
    worked_steps choose history (Configure config) given w ended moved b h (works choose history given h)
    (moved_at (Configures base ended.outcomes config.limits) (Configure config) w base moved at
    (ended_configures w base ended config at works) moves choose history given h)
    (record {
      items_are = said;
      config_is = ap (λ (o : Option Config). config_after w.held.now.config o) is;
      spots_are = ap (λ (s : SpotChange). placed s w.held.now.spots.items) same;
    })

-- ---- what is written of them

by_file : (file : ℕ) (force : List Kept) → 1 ≤ file → AreByFile file force → AllByRecursion HasFile force
by_file file [] l h = tt
by_file file (k ∷ force) l h =
    let from : 1 ≤ k.file = (let a = h.0.0 in omega (arith, a, l)) in
    ((from, h.0.1), by_file k.file force from h.1)

pub configured_written : (choose : Chooser) (history : List TimedCommand) (config : Config) (given : ℤ) (w : CommandContext) →
    MayCome choose history (order_of (Configure config) given) w →
    KeepsBounds (state_after choose (history ++ order_of (Configure config) given ∷ [])) → IsShort config.kept × All IsKept config.kept
configured_written choose history config given w h bounds =
    let is : (state_after choose (history ++ order_of (Configure config) given ∷ [])).force ≡ config.kept =
    ap (λ (m : State). m.force) (after_one choose history (order_of (Configure config) given)) in
    subst (λ (kept : List Kept). IsShort kept × All IsKept kept) is
    (force_written (state_after choose (history ++ order_of (Configure config) given ∷ [])) bounds
    (subst (λ (kept : List Kept). AllByRecursion HasFile kept) (sym is) (by_file 1 config.kept (omega arith) h.taken.order.files)))
