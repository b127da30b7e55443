-- What a Tick leaves to the command behind it.
use Rattle.std.proofs.Common.{◌≡◌, ◌≤◌, ◌<◌, ◌^◌, ℕ, ℤ, Bool, true, false, List, [], ◌∷◌, ◌++◌, refl, sym, arith, subst}
use Rattle.std.proofs.lemmas.Int.{ints}
use Rattle.ix_model.specs.Bounds.{KeepsBounds}
use Rattle.ix_model.specs.Given.{Chooser}
use Rattle.ix_model.specs.Judged.{judged, waits_for_tick}
use Rattle.ix_model.specs.State.{State, empty}
use Rattle.ix_model.specs.Step.{state_after, effective, step}
use Rattle.ix_model.specs.declared.commands.Command.{Command}
use Rattle.ix_model.specs.declared.commands.Command.TheVariants.{Begin, Block, End, Tick, Roll, Thaw, Configure, Direct}
use Rattle.ix_model.specs.declared.commands.TimedCommand.{TimedCommand}
use Rattle.ix_model.proofs.Following.{after_more}
use Rattle.ix_bounds.specs.Ticked.{tick_for, IsTicked}
use Rattle.ix_bounds.proofs.Bounded as bounded

false_true : false ≡ true → ⊥
false_true e = cc

judged_same : (choose : Chooser) (m : State) (order : TimedCommand) (command : Command) → waits_for_tick command ≡ true →
    judged (step choose m (tick_for order)) command ≡ judged m command
judged_same choose m order (Begin channel meta) w = refl
judged_same choose m order (Block channel bytes spot) w = refl
judged_same choose m order (End channel) w = refl
judged_same choose m order Tick w = absurd (false_true w)
judged_same choose m order (Roll index) w = absurd (false_true w)
judged_same choose m order (Thaw index id) w = absurd (false_true w)
judged_same choose m order (Configure config) w = absurd (false_true w)
judged_same choose m order (Direct events) w = refl

once_more : (last moment : ℤ) → effective (effective last moment) moment ≡ effective last moment
once_more last moment = grind (arith, ints)

bounds_keep : (choose : Chooser) (m : State) (order : TimedCommand) → KeepsBounds m →
    (step choose m (tick_for order)).catalog.next_file < 2 ^ 63 →
    KeepsBounds (step choose m (tick_for order))
bounds_keep choose m order h n =
    let moment : ℤ = effective m.last order.moment in
    record {
      times = bounded.times m moment h;
      settled = h.settled;
      next_file = n;
      next_ids = bounded.ids m moment h;
      offsets = h.offsets;
      bytes = bounded.bytes m moment h;
      events = bounded.events m moment h;
      channels = h.channels;
      items = bounded.size m moment h;
    }

ticked : (choose : Chooser) (m : State) (order : TimedCommand) → IsTicked order m (step choose m (tick_for order))
ticked choose m order = record {
  force = refl;
  channels = refl;
  spots = refl;
  judgement = judged_same choose m order order.command;
  moment = once_more m.last order.moment;
  files = omega arith;
  bounds = bounds_keep choose m order;
}

pub ticks : (choose : Chooser) (history : List TimedCommand) (order : TimedCommand) →
    IsTicked order (state_after choose history) (state_after choose (history ++ tick_for order ∷ []))
ticks choose history order =
    subst (IsTicked order (state_after choose history)) (sym (after_more choose empty history (tick_for order ∷ [])))
    (ticked choose (state_after choose history) order)
