-- A channel that is begun in memory is that of the machine.
use Rattle.std.proofs.Common.{◌≡◌, ℕ, ℤ, ◌≤◌, Bool, true, false, List, [], ◌∷◌, refl, sym, ap, ◌∙◌, subst, length}
use Rattle.std.specs.Prelude.{Option, Some, None, is_some, not, if◌then◌else◌, unwrap_or, option_to_list}
use Rattle.std.specs.List.{AllZip}
use Rattle.std.specs.List as vectors
use Rattle.std.specs.Option.{option_map}
use Rattle.ix_base.specs.declared.events.ChannelMeta.{ChannelMeta}
use Rattle.ix_parse.specs.Spelling.{spell}
use Rattle.ix_parse.specs.declared.carry.Carry.{Carry}
use Rattle.ix_items.specs.declared.items.Item.{Item}
use Rattle.ix_items.specs.declared.items.Item.TheVariants as items
use Rattle.ix_items.specs.declared.items.Kept.{Kept}
use Rattle.ix_state.proofs.Brief.{AreBrief, configured_brief, source_type_brief}
use Rattle.ix_state.specs.Configs.{IsChooser}
use Rattle.ix_state.specs.Taken.{IsStated}
use Rattle.ix_model.specs.Given.{Chooser, is_configured, default_index}
use Rattle.ix_model.specs.Given as given
use Rattle.ix_model.specs.Judged.{judged, is_configured_or_default}
use Rattle.ix_model.specs.State.{State, ChannelHistory, life_name, life_in}
use Rattle.ix_model.specs.Step.{state_after, begun, channels_with, stepped}
use Rattle.ix_model.specs.declared.commands.Command.TheVariants.{Begin}
use Rattle.ix_model.specs.declared.commands.TimedCommand.{TimedCommand}
use Rattle.ix_model.proofs.Named.{by_test, bytes_same, find_put}
use Rattle.ix_parse.specs.Carry.{carry_of}
use Rattle.ix_parse.specs.Standing.{StandsFor}
use Rattle.ix_parse.proofs.SameLemmas as same
use Rattle.ix_props.specs.Same.{AreSame}
use Rattle.ix_props.specs.Settings.{AreSettings}
use Rattle.ix_props.specs.declared.settings.Settings.{Settings}
use Rattle.ix_catalog.specs.Lists.{find, insert, stands_before}
use Rattle.ix_model.specs.Books.{life_item}
use Rattle.ix_state.specs.Held.{IsOpen, SeesChannels}
use Rattle.ix_state.specs.declared.state.StoreState.{StoreState}
use Rattle.ix_state.specs.declared.state.OpenChannel.{OpenChannel}
use Rattle.ix_channels.specs.Begun.{resolved, IsBegun}
use Rattle.ix_channels.specs.Changes.{HasRoom, changed}
use Rattle.ix_channels.specs.Places.{place_for}
use Rattle.ix_channels.specs.Taken.{item_of}
use Rattle.ix_channels.specs.Working.{MayBeDone, IsWorked}
use Rattle.ix_channels.specs.declared.channel_effect.ChannelEffect.{ChannelEffect}
use Rattle.ix_channels.proofs.Channels.{inserted}

some_none : {X : Type 0} {x : X} → Some x ≡ None → ⊥
some_none e = cc

none_by : {X : Type 0} (o : Option X) → is_some o ≡ false → o ≡ None
none_by None e = refl
none_by (Some x) e = absurd (f e)
  where
    f : true ≡ false → ⊥
    f h = cc

not_true : (b : Bool) → not b ≡ false → b ≡ true
not_true true e = refl
not_true false e = absurd (f e)
  where
    f : true ≡ false → ⊥
    f h = cc

-- ---- settings

pub briefs : (m : State) (held : StoreState) → SeesChannels m held → AreBrief m.force
briefs m held sees = subst AreBrief sees.kept sees.config.stanzas

pub resolved_is : (m : State) (held : StoreState) (meta : ChannelMeta) → SeesChannels m held →
    resolved held.config.limits meta ≡ given.resolved m.force meta
resolved_is m held meta sees =
    ap (λ (d : List ℕ). record {
      host = meta.host;
      source = meta.source;
      sourcetype = meta.sourcetype;
      index = Some (unwrap_or meta.index d);
    }) sees.set.limits.default_database

-- the settings in memory mean the same as those that are chosen
pub chosen_same : (choose : Chooser) (m : State) (held : StoreState) (meta : ChannelMeta) (settings : Settings) → IsChooser choose →
    SeesChannels m held →
    AreSettings held.config.props (resolved held.config.limits meta) settings →
    AreSame settings (choose m.force (given.resolved m.force meta))
chosen_same choose m held meta settings is sees chosen =
    let whole = resolved held.config.limits meta in
    subst (λ (force : List Kept). AreSame settings (choose force (given.resolved m.force meta))) sees.kept
    (subst (λ (w : ChannelMeta). AreSame settings (choose held.config.kept w)) (resolved_is m held meta sees)
    (is held.config sees.config whole settings chosen))

pub source_type_of : (m : State) (held : StoreState) (meta : ChannelMeta) (settings : Settings) → SeesChannels m held → IsStated meta →
    AreSettings held.config.props (resolved held.config.limits meta) settings → length settings.sourcetype ≤ 1024
source_type_of m held meta settings sees stated chosen =
    source_type_brief held.config.kept held.config.props meta.sourcetype meta.source settings.sourcetype sees.config.props stated.sourcetype
    chosen.sourcetype

-- ---- the channel

pub is_open : (choose : Chooser) (m : State) (held : StoreState) (name : List ℕ) (meta : ChannelMeta) (o : OpenChannel) → IsChooser choose →
    SeesChannels m held → IsStated meta →
    is_configured_or_default m meta.index ≡ true → IsBegun held.config.props name (resolved held.config.limits meta) o →
    IsOpen (begun choose m.force name meta) o
is_open choose m held name meta o is sees stated conf b = record {
  name = b.name_is;
  meta = b.meta_is ∙ resolved_is m held meta sees;
  settings = b.started.settings;
  same = chosen_same choose m held meta b.started.settings is sees b.started.chosen;
  usable = b.started.usable;
  limits = record {
    host = stated.host;
    source = stated.source;
    sourcetype = source_type_of m held meta b.started.settings sees stated b.started.chosen;
    index = configured_brief m.force (unwrap_or meta.index (default_index m.force)) (briefs m held sees) conf;
  };
  stands = subst (λ (w : ChannelMeta). StandsFor b.started.settings w [] o.channel) (resolved_is m held meta sees) b.started.stands;
  moments = tt;
}

-- what is said of a channel in memory is what is said of its life
pub open_said : (life : ChannelHistory) (o : OpenChannel) (i : IsOpen life o) →
    item_of o.name o.meta i.settings life.stream ≡ life_item life
open_said life o i =
    ap (λ (n : List ℕ). items.Channel n o.meta (spell (carry_of i.settings life.stream))) i.name
    ∙ ap (λ (w : ChannelMeta). items.Channel life.name w (spell (carry_of i.settings life.stream))) i.meta
    ∙ ap (λ (c : Carry). items.Channel life.name life.meta (spell c)) (same.carry i.settings life.settings life.stream i.same).1

-- ---- the command

may_begin : (m : State) (channel : List ℕ) (meta : ChannelMeta) → judged m (Begin channel meta) ≡ None →
    (life_in m channel ≡ None) × (is_configured_or_default m meta.index ≡ true)
may_begin m channel meta h =
    by_test (is_some (life_in m channel))
    (λ t. absurd (some_none (rw t at h)))
    (λ t. by_test (not (is_configured_or_default m meta.index))
    (λ u. absurd (some_none (rw (t, u) at h)))
    (λ u. (none_by (life_in m channel) t, not_true (is_configured_or_default m meta.index) u)))

-- the channels that are then open, where none of the name was
channels_are : (choose : Chooser) (m : State) (channel : List ℕ) (meta : ChannelMeta) → life_in m channel ≡ None →
    channels_with choose m channel meta ≡ insert life_name (begun choose m.force channel meta) m.channels
channels_are choose m channel meta none =
    ap (λ (o : Option ChannelHistory). if is_some o then m.channels else insert life_name (begun choose m.force channel meta) m.channels)
    none

found_begun : (choose : Chooser) (m : State) (channel : List ℕ) (meta : ChannelMeta) (moment : ℤ) → life_in m channel ≡ None →
    life_in (stepped choose m (Begin channel meta) moment) channel ≡ Some (begun choose m.force channel meta)
found_begun choose m channel meta moment none =
    let life : ChannelHistory = begun choose m.force channel meta in
    ap (λ (ls : List ChannelHistory). find life_name channel ls) (channels_are choose m channel meta none)
    ∙ find_put life_name (stands_before life_name) channel life m.channels none
    ∙ ap (λ (b : Bool). if b then Some life else life_in m channel) (bytes_same channel channel refl)

pub begin_works : (choose : Chooser) (history : List TimedCommand) (channel : List ℕ) (meta : ChannelMeta) (moment : ℤ) (held : StoreState)
    (o : OpenChannel) (worked : ChannelEffect) →
    MayBeDone choose history (Begin channel meta) moment held → IsBegun held.config.props channel (resolved held.config.limits meta) o →
    changed worked.change held.channels.items ≡ vectors.insert held.channels.items (place_for o.name held.channels.items) o →
    HasRoom worked.change held.channels →
    worked.outcomes ≡ [] →
    ((settings : Settings) (stated : ChannelMeta) → StandsFor settings stated [] o.channel →
    worked.items ≡ item_of o.name o.meta settings [] ∷ []) →
    IsWorked choose history (Begin channel meta) moment held worked
begin_works choose history channel meta moment held o worked may b change room outcomes said =
    let m : State = state_after choose history in
    let both = may_begin m channel meta may.no_cause in
    let life : ChannelHistory = begun choose m.force channel meta in
    let i : IsOpen life o = is_open choose m held channel meta o may.chooser may.sees may.taken.1 both.1 b in
    record {
      channels = subst (λ (ls : List ChannelHistory). AllZip IsOpen ls (changed worked.change held.channels.items))
          (sym (channels_are choose m channel meta both.0))
          (subst (λ (os : List OpenChannel). AllZip IsOpen (insert life_name life m.channels) os) (sym change)
          (inserted life o m.channels held.channels.items i may.sees.channels));
      room = room;
      outcomes = outcomes;
      items = said i.settings life.meta i.stands ∙ ap (λ (x : Item). x ∷ []) (open_said life o i)
          ∙ ap (λ (f : Option ChannelHistory). option_to_list (option_map life_item f))
          (sym (found_begun choose m channel meta moment both.0));
    }

-- the life that is begun, and its channel
pub begun_is : (choose : Chooser) (history : List TimedCommand) (channel : List ℕ) (meta : ChannelMeta) (moment : ℤ) (held : StoreState)
    (o : OpenChannel) →
    MayBeDone choose history (Begin channel meta) moment held → IsBegun held.config.props channel (resolved held.config.limits meta) o →
    (life_in (stepped choose (state_after choose history) (Begin channel meta) moment) channel ≡ Some
    (begun choose (state_after choose history).force channel meta))
    × IsOpen (begun choose (state_after choose history).force channel meta) o
begun_is choose history channel meta moment held o may b =
    let m : State = state_after choose history in
    let both = may_begin m channel meta may.no_cause in
    (found_begun choose m channel meta moment both.0, is_open choose m held channel meta o may.chooser may.sees may.taken.1 both.1 b)
