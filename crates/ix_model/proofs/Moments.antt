-- Moments keep their range, and never fall.
use Rattle.std.proofs.Common.{ℤ, List, [], ◌∷◌, arith}
use Rattle.std.specs.Prelude.{pos, ◌≤ℤ◌}
use Rattle.std.specs.Int.Signed.{≤ℤ_refl}
use Rattle.std.proofs.lemmas.Int.{ints}
use Rattle.ix_base.specs.Clocks.{clamped, latest}
use Rattle.ix_model.specs.Given.{Chooser}
use Rattle.ix_model.specs.Laws.{AreMoments}
use Rattle.ix_model.specs.State.{State, empty}
use Rattle.ix_model.specs.Step.{effective, last_tick, step, after_from, state_after}
use Rattle.ix_model.specs.declared.commands.Command.{Command}
use Rattle.ix_model.specs.declared.commands.Command.TheVariants.{Begin, Block, End, Tick, Roll, Thaw, Configure, Direct}
use Rattle.ix_model.specs.declared.commands.TimedCommand.{TimedCommand}

more : (last moment : ℤ) → last ≤ℤ effective last moment
more last moment = grind (arith, ints)

clamped_most : (moment : ℤ) → clamped moment ≤ℤ latest
clamped_most moment = grind (arith, ints)

most : (last moment : ℤ) → last ≤ℤ latest → effective last moment ≤ℤ latest
most last moment h = let a = clamped_most moment in grind (arith, ints, a)

then_more : (a b c : ℤ) → a ≤ℤ b → b ≤ℤ c → a ≤ℤ c
then_more a b c g h = omega (arith, ints, g, h)

tick_before : (tick last moment : ℤ) (command : Command) → tick ≤ℤ last → last ≤ℤ moment → last_tick tick command moment ≤ℤ moment
tick_before tick last moment (Begin channel meta) t l = then_more tick last moment t l
tick_before tick last moment (Block channel bytes spot) t l = then_more tick last moment t l
tick_before tick last moment (End channel) t l = then_more tick last moment t l
tick_before tick last moment Tick t l = ≤ℤ_refl moment
tick_before tick last moment (Roll index) t l = then_more tick last moment t l
tick_before tick last moment (Thaw index id) t l = then_more tick last moment t l
tick_before tick last moment (Configure config) t l = then_more tick last moment t l
tick_before tick last moment (Direct events) t l = then_more tick last moment t l

tick_start : (tick moment : ℤ) (command : Command) → pos 0 ≤ℤ tick → pos 0 ≤ℤ moment → pos 0 ≤ℤ last_tick tick command moment
tick_start tick moment (Begin channel meta) t l = t
tick_start tick moment (Block channel bytes spot) t l = t
tick_start tick moment (End channel) t l = t
tick_start tick moment Tick t l = l
tick_start tick moment (Roll index) t l = t
tick_start tick moment (Thaw index id) t l = t
tick_start tick moment (Configure config) t l = t
tick_start tick moment (Direct events) t l = t

one : (choose : Chooser) (m : State) (o : TimedCommand) → AreMoments m → AreMoments (step choose m o)
one choose m o h =
    let moment = effective m.last o.moment in
    let l = more m.last o.moment in
    record {
      from_start = then_more (pos 0) m.last moment h.from_start l;
      to_end = most m.last o.moment h.to_end;
      tick_from_start = tick_start m.tick moment o.command h.tick_from_start (then_more (pos 0) m.last moment h.from_start l);
      tick_before = tick_before m.tick m.last moment o.command h.tick_before l;
    }

from : (choose : Chooser) (m : State) (history : List TimedCommand) → AreMoments m → AreMoments (after_from choose m history)
from choose m [] h = h
from choose m (o ∷ history) h = from choose (step choose m o) history (one choose m o h)

pub moments_after : (choose : Chooser) (history : List TimedCommand) → AreMoments (state_after choose history)
moments_after choose history = from choose empty history (record {
  from_start = ≤ℤ_refl (pos 0);
  to_end = clamped_most (pos 0);
  tick_from_start = ≤ℤ_refl (pos 0);
  tick_before = ≤ℤ_refl (pos 0);
})

pub never_falls : (choose : Chooser) (m : State) (history : List TimedCommand) → m.last ≤ℤ (after_from choose m history).last
never_falls choose m [] = ≤ℤ_refl m.last
never_falls choose m (o ∷ history) =
    then_more m.last (effective m.last o.moment) (after_from choose (step choose m o) history).last (more m.last o.moment)
    (never_falls choose (step choose m o) history)
