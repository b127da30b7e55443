-- The settings in force are those of a command that set them, or else none; and also where there
-- are none, values are read of them. So whatever is said of the settings of a config is said of
-- those in force, here and in ix_recovery.
use Rattle.std.proofs.Common.{◌≡◌, ℕ, List, [], ◌∷◌, refl, sym, ap, codes}
use Rattle.std.specs.Prelude.{Some, unwrap_or, bytes_eq}
use Rattle.ix_conf.specs.Value.{AreMerged}
use Rattle.ix_items.specs.declared.items.Kept.{Kept}
use Rattle.ix_state.specs.Configs.{layer_in, built_in, AreProps, IsConfig}
use Rattle.ix_state.specs.Taken.{IsTakenCommand, AreGiven}
use Rattle.ix_life.specs.Limits.{number, limits, limits_of, index_limits, listed, AreLimits}
use Rattle.ix_life.specs.Stanzas.{is_index_stanza}
use Rattle.ix_life.specs.declared.kinds.Kind.TheVariants as kinds
use Rattle.ix_life.specs.declared.sets.LimitSet.{LimitSet}
use Rattle.ix_model.specs.Given.{Chooser}
use Rattle.ix_model.specs.State.{State, empty}
use Rattle.ix_model.specs.Step.{force, step, after_from, state_after}
use Rattle.ix_model.specs.declared.commands.Command.{Command}
use Rattle.ix_model.specs.declared.commands.Command.TheVariants.{Begin, Block, End, Tick, Roll, Thaw, Configure, Direct}
use Rattle.ix_model.specs.declared.commands.Config.{Config}
use Rattle.ix_model.specs.declared.commands.TimedCommand.{TimedCommand}
use Rattle.ix_model.proofs.Named.{by_test, same_bytes}
use Rattle.ix_conf_values.specs.Values.{value_of}
use Rattle.ix_state.proofs.Merged.{merged_exist}

-- settings in force, with the values that were read of them
pub record AreLoaded (in_force : List Kept) : Type 0 where
  pub config : Config
  pub is : IsConfig config
  pub same : config.kept ≡ in_force

-- ---- where there are none

abbrev set : LimitSet
set = record {
  default_database = unwrap_or (value_of [] (codes "default") (codes "defaultDatabase")) (codes "main");
  last_chance = value_of [] (codes "default") (codes "lastChanceIndex");
  rotate_secs = number [] (codes "default") (codes "rotatePeriodInSecs") kinds.FromOne 60;
  indexes = listed [];
  retired = limits [] (codes "default");
}

limits_are : (index : List ℕ) → limits_of set index ≡ index_limits [] index
limits_are index =
    by_test (bytes_eq index (codes "main"))
    (λ t. rw t (ap (λ (name : List ℕ). Some (limits [] name)) (sym (same_bytes index (codes "main") t))))
    (λ t. by_test (is_index_stanza index)
    (λ u. rw (t, u) refl)
    (λ u. rw (t, u) refl))

set_is : AreLimits [] set
set_is = record {
  default_database = refl;
  last_chance = refl;
  rotate_secs = refl;
  retired = refl;
  listed = refl;
  limits = limits_are;
}

nothing_said : (file : ℕ) → AreMerged (layer_in file [] ∷ []) []
nothing_said file = record { ascending = tt; entry = λ stanza key. refl }

props_are : AreProps [] []
props_are =
    let zones = merged_exist (layer_in 4 [] ∷ built_in ∷ []) in
    record {
      props = [];
      transforms = [];
      zones = zones.0;
      props_are = nothing_said 1;
      transforms_are = nothing_said 2;
      zones_are = zones.1;
      read = tt;
    }

pub none_loaded : AreLoaded []
none_loaded = record {
  config = record { props = []; limits = set; kept = [] };
  is = record {
    order = record { files = tt; props = nothing_said 1; transforms = nothing_said 2; indexes = nothing_said 3; zones = nothing_said 4 };
    stanzas = tt;
    props = props_are;
    limits = record { sound = refl; limits = set_is };
  };
  same = refl;
}

-- ---- behind a command

pub still_loaded : (in_force : List Kept) (command : Command) → AreLoaded in_force → IsTakenCommand command →
    AreLoaded (force in_force command)
still_loaded in_force (Begin channel meta) h t = h
still_loaded in_force (Block channel bytes spot) h t = h
still_loaded in_force (End channel) h t = h
still_loaded in_force Tick h t = h
still_loaded in_force (Roll index) h t = h
still_loaded in_force (Thaw index id) h t = h
still_loaded in_force (Configure config) h t = record { config = config; is = t; same = refl }
still_loaded in_force (Direct events) h t = h

-- ---- behind a history

loaded_from : (choose : Chooser) (m : State) (history : List TimedCommand) → AreLoaded m.force → AreGiven history →
    AreLoaded (after_from choose m history).force
loaded_from choose m [] h given = h
loaded_from choose m (order ∷ history) h given =
    loaded_from choose (step choose m order) history (still_loaded m.force order.command h given.0) given.1

pub loaded_after : (choose : Chooser) (history : List TimedCommand) → AreGiven history → AreLoaded (state_after choose history).force
loaded_after choose history given = loaded_from choose empty history none_loaded given
