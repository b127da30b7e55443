-- The channel of a selftest is open from its begin to its end, so that its commands have no other
-- cause to be refused than want of room.
use Rattle.std.proofs.Common.{◌≡◌, ◌∙◌, ℕ, ℤ, Bool, true, false, not, List, [], ◌∷◌, map, refl, sym, ap, subst, Option, Some, None}
use Rattle.std.specs.Prelude.{if◌then◌else◌, is_some, nat_le}
use Rattle.std.specs.Option.{option_map}
use Rattle.ix_catalog.specs.Lists.{find, change, insert, stands_before}
use Rattle.ix_items.specs.declared.items.Kept.{Kept}
use Rattle.ix_model.specs.Given.{Chooser, is_configured, default_index}
use Rattle.ix_model.specs.Judged.{adds, first, is_begun, judged, most_channels, needs_tick}
use Rattle.ix_model.specs.State.{State, ChannelHistory, empty, life_in, life_name}
use Rattle.ix_model.specs.Step.{after_from, begun, effective, longer, state_after, step}
use Rattle.ix_model.specs.declared.answers.Refusal.TheVariants as refusals
use Rattle.ix_model.specs.declared.commands.Command.TheVariants.{Begin, Configure, Tick}
use Rattle.ix_model.specs.declared.commands.Config.{Config}
use Rattle.ix_model.specs.declared.commands.TimedCommand.{TimedCommand}
use Rattle.ix_model.proofs.Following.{after_more}
use Rattle.ix_model.proofs.Named.{find_change, find_put}
use Rattle.ix_run.specs.Giving.{given_all}
use Rattle.ix_store.specs.Making.{with_order}
use Rattle.indexd_selftest.specs.History.{channel, meta, moment, sent, sent_block, settings}

-- ---- one command

mapped_some : {X : Type 0} (f : X → X) (o : Option X) → is_some (option_map f o) ≡ is_some o
mapped_some f None = refl
mapped_some f (Some x) = refl

grows : (m : State) (bytes : List ℕ) (time : ℤ) → is_begun m channel ≡ true →
    is_some (find life_name channel (change life_name channel (longer bytes time) m.channels)) ≡ true
grows m bytes time opened =
    ap is_some (find_change life_name channel channel (longer bytes time) (λ l. refl) m.channels)
    ∙ mapped_some (longer bytes time) (life_in m channel) ∙ opened

begins : (choose : Chooser) (m : State) (o : Option ChannelHistory) → life_in m channel ≡ o →
    is_some (find life_name channel (if is_some o then m.channels else insert life_name (begun choose m.force channel meta) m.channels))
    ≡ true
begins choose m (Some life) is = ap is_some is
begins choose m None is =
    ap is_some (find_put life_name (stands_before life_name) channel (begun choose m.force channel meta) m.channels is)

-- ---- with the Tick that it may bring

module _ (choose : Chooser) (order : TimedCommand) (Holds : State → Type 0) (ticks : (m : State) → Holds m →
    Holds (step choose m (record { command = Tick; moment = order.moment })))
    (keeps : (m : State) → Holds m → is_begun (step choose m order) channel ≡ true) where
  by_tick : (m : State) (t : Bool) → Holds m →
      is_begun (after_from choose m (if t then record { command = Tick; moment = order.moment } ∷ order ∷ [] else order ∷ [])) channel
      ≡ true
  by_tick m true holds = keeps (step choose m (record { command = Tick; moment = order.moment })) (ticks m holds)
  by_tick m false holds = keeps m holds

  with_more : (history : List TimedCommand) → Holds (state_after choose history) →
      is_begun (state_after choose (with_order choose history order)) channel ≡ true
  with_more history holds =
      subst (λ (m : State). is_begun m channel ≡ true) (sym (after_more choose empty history (adds (state_after choose history) order)))
      (by_tick (state_after choose history) (needs_tick (state_after choose history) order) holds)

abbrev IsBegun : State → Type 0
IsBegun m = is_begun m channel ≡ true

abbrev Anything : State → Type 0
Anything m = Unit {0}

-- behind the command that begins it the channel is open
pub opens : (choose : Chooser) (history : List TimedCommand) →
    is_begun (state_after choose (with_order choose history (sent (Begin channel meta)))) channel ≡ true
opens choose history =
    with_more choose (sent (Begin channel meta)) Anything (λ m holds. tt) (λ m holds. begins choose m (life_in m channel) refl) history tt

-- and so it is behind a block more
one_stays : (choose : Chooser) (history : List TimedCommand) (block : List ℕ) → is_begun (state_after choose history) channel ≡ true →
    is_begun (state_after choose (with_order choose history (sent_block block))) channel ≡ true
one_stays choose history block opened =
    with_more choose (sent_block block) IsBegun (λ m is. is) (λ m is. grows m block (effective m.last moment) is) history opened

-- and behind blocks
pub stays_open : (choose : Chooser) (history : List TimedCommand) (blocks : List (List ℕ)) →
    is_begun (state_after choose history) channel ≡ true →
    is_begun (state_after choose (given_all choose history (map sent_block blocks))) channel ≡ true
stays_open choose history [] opened = opened
stays_open choose history (block ∷ blocks) opened =
    stays_open choose (with_order choose history (sent_block block)) blocks (one_stays choose history block opened)

-- ---- causes of a refusal

pub may_go_on : (begun : Bool) → begun ≡ true → first ((not begun, refusals.NoChannel) ∷ []) ≡ None
may_go_on true is = refl
may_go_on false is = cc

-- the channel may be begun behind the settings
pub may_begin : (choose : Chooser) (config : Config) → config.kept ≡ settings →
    judged (state_after choose (with_order choose [] (sent (Configure config)))) (Begin channel meta) ≡ None
may_begin choose config is =
    let P : List Kept → Type 0 = λ (force : List Kept). first (
    (false, refusals.ChannelOpen)
    ∷ (not (is_configured force (default_index force)), refusals.UnknownIndex)
    ∷ (nat_le most_channels 0, refusals.TooManyChannels)
    ∷ []) ≡ None in
    subst P (sym is) refl
