-- What holds of the open channels of each history of what commands may bring.
use Rattle.std.proofs.Common.{◌≡◌, inl, inr, ℕ, ◌≤◌, ℤ, true, List, [], ◌∷◌, length, refl, arith}
use Rattle.std.specs.Prelude.{Option, Some, None, IfSome, is_some, unwrap_or, bytes_eq}
use Rattle.std.specs.Int.{int_max}
use Rattle.std.specs.List.{AllByRecursion}
use Rattle.std.proofs.lemmas.Int.{ints}
use Rattle.ix_base.specs.Clocks.{clamped}
use Rattle.ix_base.specs.Stream.{Dated, dated}
use Rattle.ix_base.specs.declared.events.ChannelMeta.{ChannelMeta}
use Rattle.ix_parse.specs.Form.{IsMoment}
use Rattle.ix_items.specs.declared.items.Kept.{Kept}
use Rattle.ix_state.specs.Taken.{IsStated, IsTakenCommand, AreGiven}
use Rattle.ix_parse.specs.Carry.{HasMoments}
use Rattle.ix_parse.proofs.FormLemmas.{clamped-moment, both}
use Rattle.ix_model.specs.Given.{Chooser, default_index}
use Rattle.ix_model.specs.State.{State, ChannelHistory, life_name, life_in, empty}
use Rattle.ix_model.specs.Step.{longer, begun, channels_with, effective, step, stepped, after_from, state_after}
use Rattle.ix_model.specs.declared.commands.Command.{Command}
use Rattle.ix_model.specs.declared.commands.Command.TheVariants.{Begin, Block, End, Tick, Roll, Thaw, Configure, Direct}
use Rattle.ix_model.specs.declared.commands.TimedCommand.{TimedCommand}
use Rattle.ix_model.proofs.Named.{by_test, all_put, all_change}
use Rattle.ix_catalog.specs.Lists.{without, stands_before}
use Rattle.ix_recovery.proofs.Defaults.{IsForce, default_brief}

-- An open channel has the settings that are chosen for what it states, and states no more than it
-- may; its bytes came at moments.
pub record KeepsLife (choose : Chooser) (force : List Kept) (life : ChannelHistory) : Type 0 where
  pub chosen : life.settings ≡ choose force life.meta
  pub named : is_some life.meta.index ≡ true
  pub host : length life.meta.host ≤ 1024
  pub source : length life.meta.source ≤ 4096
  pub sourcetype : IfSome life.meta.sourcetype (λ (name : List ℕ). length name ≤ 1024)
  pub index : IfSome life.meta.index (λ (name : List ℕ). length name ≤ 1024)
  pub moments : HasMoments life.stream

pub record KeepsLives (choose : Chooser) (m : State) : Type 0 where
  pub force : IsForce m.force
  pub lives : AllByRecursion (KeepsLife choose m.force) m.channels
  pub last : IsMoment m.last

-- ---- moments

later_moment : (a b : ℤ) → IsMoment a → IsMoment b → IsMoment (int_max a b)
later_moment a b h k = (grind (arith, ints, h.0, h.1, k.0, k.1), grind (arith, ints, h.0, h.1, k.0, k.1))

effective_moment : (last moment : ℤ) → IsMoment last → IsMoment (effective last moment)
effective_moment last moment h = later_moment last (clamped moment) h (clamped-moment moment)

dated_moments : (bytes : List ℕ) (moment : ℤ) → IsMoment moment → HasMoments (dated bytes moment)
dated_moments [] moment h = tt
dated_moments (b ∷ bytes) moment h = (h, dated_moments bytes moment h)

-- ---- commands

brief_index : (o : Option (List ℕ)) (default : List ℕ) → IfSome o (λ (name : List ℕ). length name ≤ 1024) → length default ≤ 1024 →
    length (unwrap_or o default) ≤ 1024
brief_index None default h k = k
brief_index (Some name) default h k = h

begins : (choose : Chooser) (force : List Kept) (channel : List ℕ) (meta : ChannelMeta) → IsForce force → IsStated meta →
    KeepsLife choose force (begun choose force channel meta)
begins choose force channel meta is stated = record {
  chosen = refl;
  named = refl;
  host = stated.host;
  source = stated.source;
  sourcetype = stated.sourcetype;
  index = brief_index meta.index (default_index force) stated.index (default_brief force is);
  moments = tt;
}

grows : (choose : Chooser) (force : List Kept) (bytes : List ℕ) (moment : ℤ) → IsMoment moment → (life : ChannelHistory) →
    KeepsLife choose force life →
    KeepsLife choose force (longer bytes moment life)
grows choose force bytes moment is life h = record {
  chosen = h.chosen;
  named = h.named;
  host = h.host;
  source = h.source;
  sourcetype = h.sourcetype;
  index = h.index;
  moments = both (λ (d : Dated). IsMoment d.1) life.stream (dated bytes moment) h.moments (dated_moments bytes moment is);
}

all_without : {X : Type 0} (P : X → Type 0) (name_of : X → List ℕ) (name : List ℕ) (xs : List X) → AllByRecursion P xs →
    AllByRecursion P (without name_of name xs)
all_without P name_of name [] h = tt
all_without P name_of name (x ∷ xs) h =
    by_test (bytes_eq (name_of x) name)
    (λ t. rw t h.1)
    (λ t. rw t (h.0, all_without P name_of name xs h.1))

with_channel : (choose : Chooser) (m : State) (channel : List ℕ) (meta : ChannelMeta) → IsStated meta → KeepsLives choose m →
    AllByRecursion (KeepsLife choose m.force) (channels_with choose m channel meta)
with_channel choose m channel meta stated h =
    by_test (is_some (life_in m channel))
    (λ t. rw t h.lives)
    (λ t. rw t (all_put (KeepsLife choose m.force) (stands_before life_name) (begun choose m.force channel meta) m.channels
    (begins choose m.force channel meta h.force stated) h.lives))

one : (choose : Chooser) (m : State) (command : Command) (moment : ℤ) → IsTakenCommand command → IsMoment moment → KeepsLives choose m →
    KeepsLives choose (stepped choose m command moment)
one choose m (Begin channel meta) moment taken is h = record {
  force = h.force;
  lives = with_channel choose m channel meta taken.1 h;
  last = is;
}
one choose m (Block channel bytes spot) moment taken is h = record {
  force = h.force;
  lives = all_change (KeepsLife choose m.force) life_name channel (longer bytes moment) m.channels h.lives
      (grows choose m.force bytes moment is);
  last = is;
}
one choose m (End channel) moment taken is h = record {
  force = h.force;
  lives = all_without (KeepsLife choose m.force) life_name channel m.channels h.lives;
  last = is;
}
one choose m Tick moment taken is h = record { force = h.force; lives = h.lives; last = is }
one choose m (Roll index) moment taken is h = record { force = h.force; lives = h.lives; last = is }
one choose m (Thaw index id) moment taken is h = record { force = h.force; lives = h.lives; last = is }
one choose m (Configure config) moment taken is h = record { force = inr (config, taken, refl); lives = tt; last = is }
one choose m (Direct events) moment taken is h = record { force = h.force; lives = h.lives; last = is }

-- ---- histories

all : (choose : Chooser) (m : State) (history : List TimedCommand) → AreGiven history → KeepsLives choose m →
    KeepsLives choose (after_from choose m history)
all choose m [] given h = h
all choose m (order ∷ history) given h =
    all choose (step choose m order) history given.1
    (one choose m order.command (effective m.last order.moment) given.0 (effective_moment m.last order.moment h.last) h)

pub lives_kept : (choose : Chooser) (history : List TimedCommand) → AreGiven history → KeepsLives choose (state_after choose history)
lives_kept choose history given =
    all choose empty history given (record { force = inl refl; lives = tt; last = (omega (arith, ints), omega (arith, ints)) })
