-- A channel in memory that took bytes in, or that ended, is that of the machine.
use Rattle.std.proofs.Common.{◌≡◌, ℕ, ℤ, ◌+◌, ◌<◌, Bool, true, false, List, [], ◌∷◌, ◌++◌, refl, sym, ap, ◌∙◌, subst, length, drop, get_or}
use Rattle.std.proofs.Common.{arith}
use Rattle.std.specs.Prelude.{Option, Some, None, is_some, not, if◌then◌else◌, pos, ◌≤ℤ◌, option_to_list, bytes_eq}
use Rattle.std.specs.List.{AllZip, position, position_or_len}
use Rattle.std.specs.Option.{option_map}
use Rattle.std.proofs.Math.Seq.{drop-append_seam}
use Rattle.std.proofs.lemmas.Int.{ints}
use Rattle.ix_base.specs.Clocks.{clamped, latest}
use Rattle.ix_base.specs.Stream.{Dated, dated}
use Rattle.ix_base.specs.declared.events.ChannelMeta.{ChannelMeta}
use Rattle.ix_base.specs.declared.events.Routed.{Routed}
use Rattle.ix_base.specs.declared.events.Spot.{Spot}
use Rattle.ix_parse.specs.Form.{IsMoment}
use Rattle.ix_items.specs.declared.items.Item.{Item}
use Rattle.ix_items.specs.declared.items.Item.TheVariants as items
use Rattle.ix_model.specs.Given.{Chooser}
use Rattle.ix_model.specs.Judged.{first, judged}
use Rattle.ix_model.specs.State.{State, ChannelHistory, life_name, life_in}
use Rattle.ix_model.specs.Step.{state_after, longer, block_adds, end_adds, stepped}
use Rattle.ix_model.specs.declared.answers.Refusal.TheVariants as refusals
use Rattle.ix_model.specs.declared.commands.Command.TheVariants.{Block, End}
use Rattle.ix_model.specs.declared.commands.TimedCommand.{TimedCommand}
use Rattle.ix_model.proofs.Named.{by_test, bytes_same, find_change}
use Rattle.ix_parse.specs.Carry.{HasMoments}
use Rattle.ix_parse.specs.Settled.{settled}
use Rattle.ix_parse.specs.Standing.{StandsFor}
use Rattle.ix_parse.proofs.SameLemmas as same
use Rattle.ix_props.specs.declared.settings.Settings.{Settings}
use Rattle.ix_catalog.specs.Lists.{find}
use Rattle.ix_model.specs.Books.{life_item}
use Rattle.ix_model.proofs.Names.{found_name}
use Rattle.ix_state.specs.Causes.{has_name}
use Rattle.ix_state.specs.Held.{IsOpen}
use Rattle.ix_state.specs.declared.state.StoreState.{StoreState}
use Rattle.ix_state.specs.declared.state.OpenChannel.{OpenChannel}
use Rattle.ix_channels.specs.Changes.{with_channel}
use Rattle.ix_channels.specs.Taken.{item_of, TakesIn, IsFed, Settles}
use Rattle.ix_channels.specs.Working.{MayBeDone, IsWorked}
use Rattle.ix_channels.specs.declared.change.ChannelChange.TheVariants as change
use Rattle.ix_channels.specs.declared.feeding.Fed.{Fed}
use Rattle.ix_channels.proofs.BegunLemmas.{open_said}
use Rattle.ix_channels.proofs.Channels.{found_none, stands, life_at, changed_at, removed_at}

some_none : {X : Type 0} {x : X} → Some x ≡ None → ⊥
some_none e = cc

true_false : true ≡ false → ⊥
true_false e = cc

-- ---- moments

kept_moment : (moment : ℤ) → pos 0 ≤ℤ moment → moment ≤ℤ latest → clamped moment ≡ moment
kept_moment moment low high = grind (arith, ints, low, high)

-- a moment in the range is taken as it is
pub in_range : (moment : ℤ) → IsMoment moment → clamped moment ≡ moment
in_range moment h = kept_moment moment h.0 h.1

dated_moments : (bytes : List ℕ) (moment : ℤ) → IsMoment moment → HasMoments (dated bytes moment)
dated_moments [] moment h = tt
dated_moments (b ∷ bytes) moment h = (h, dated_moments bytes moment h)

pub more_moments : (stream : List Dated) (bytes : List ℕ) (moment : ℤ) → HasMoments stream → IsMoment moment →
    HasMoments (stream ++ dated bytes moment)
more_moments [] bytes moment s h = dated_moments bytes moment h
more_moments (d ∷ stream) bytes moment s h = (s.0, more_moments stream bytes moment s.1 h)

-- ---- the channel of a command

there_by : {X : Type 0} (o : Option X) → is_some o ≡ true → o ≡ None → ⊥
there_by None s e = true_false (sym s)
there_by (Some x) s e = some_none e

-- the one cause of a command that is for an open channel does not hold
may_take : (b : Bool) → first ((not b, refusals.NoChannel) ∷ []) ≡ None → b ≡ true
may_take true e = refl
may_take false e = absurd (some_none e)

-- a channel that is not in memory is not open
no_place : (name : List ℕ) (ls : List ChannelHistory) (os : List OpenChannel) → AllZip IsOpen ls os →
    length os ≡ position_or_len (has_name name) os → find life_name name ls ≡ None
no_place name [] [] h e = refl
no_place name [] (o ∷ os) h e = absurd h
no_place name (l ∷ ls) [] h e = absurd h
no_place name (l ∷ ls) (o ∷ os) h e =
    by_test (has_name name o)
    (λ t. absurd (none_here (rw t at e)))
    (λ t. rw (ap (λ (n : List ℕ). bytes_eq n name) (sym h.0.name) ∙ t) (no_place name ls os h.1 (rest (rw t at e))))
  where
    none_here : length (o ∷ os) ≡ 0 → ⊥
    none_here k = omega (arith, k)

    rest : length (o ∷ os) ≡ 1 + position_or_len (has_name name) os → length os ≡ position_or_len (has_name name) os
    rest k = omega (arith, k)

pub not_open : (name : List ℕ) (ls : List ChannelHistory) (os : List OpenChannel) → AllZip IsOpen ls os →
    position (has_name name) os ≡ None → find life_name name ls ≡ None
not_open name ls os h e = no_place name ls os h (found_none (has_name name) os e)

-- ---- a Block

block_open : (m : State) (channel bytes : List ℕ) (spot : Option Spot) → judged m (Block channel bytes spot) ≡ None →
    is_some (life_in m channel) ≡ true
block_open m channel bytes spot h = may_take (is_some (life_in m channel)) h

pub none_blocked : (choose : Chooser) (history : List TimedCommand) (channel bytes : List ℕ) (spot : Option Spot) (moment : ℤ)
    (held : StoreState) →
    MayBeDone choose history (Block channel bytes spot) moment held → position (has_name channel) held.channels.items ≡ None → ⊥
none_blocked choose history channel bytes spot moment held may e =
    let m : State = state_after choose history in
    there_by (life_in m channel) (block_open m channel bytes spot may.no_cause)
    (not_open channel m.channels held.channels.items may.sees.channels e)

module _ (bytes : List ℕ) (moment : ℤ) (in_time : IsMoment moment) (o : OpenChannel) (fed : Fed) (is : IsFed o bytes moment fed) where
  taken : (settings : Settings) (meta : ChannelMeta) (stream : List Dated) → StandsFor settings meta stream o.channel →
      TakesIn settings meta stream (dated bytes moment) fed.channel fed.outcomes
  taken settings meta stream stands =
      subst (λ (z : ℤ). TakesIn settings meta stream (dated bytes z) fed.channel fed.outcomes) (in_range moment in_time)
      (is.takes settings meta stream stands)

  -- it is the longer life
  pub longer_open : (life : ChannelHistory) → IsOpen life o → IsOpen (longer bytes moment life) (with_channel fed.channel o)
  longer_open life i = record {
    name = i.name;
    meta = i.meta;
    settings = i.settings;
    same = i.same;
    usable = i.usable;
    limits = i.limits;
    stands = (taken i.settings life.meta life.stream i.stands).0;
    moments = more_moments life.stream bytes moment i.moments in_time;
  }

  pub block_outcomes : (life : ChannelHistory) → IsOpen life o → fed.outcomes ≡ block_adds bytes moment (Some life)
  block_outcomes life i =
      let before : List Routed = settled i.settings life.meta life.stream false in
      sym (drop-append_seam before fed.outcomes)
      ∙ ap (λ (l : List Routed). drop (length before) l) (sym (taken i.settings life.meta life.stream i.stands).1)
      ∙ ap (λ (l : List Routed). drop (length before) l)
      (same.settle i.settings life.settings life.meta (life.stream ++ dated bytes moment) false i.same)
      ∙ ap (λ (b : List Routed). drop (length b) (settled life.settings life.meta (life.stream ++ dated bytes moment) false))
      (same.settle i.settings life.settings life.meta life.stream false i.same)

  pub block_said : (life : ChannelHistory) (i : IsOpen life o) → fed.items ≡ life_item (longer bytes moment life) ∷ []
  unfolding longer_open
  block_said life i =
      is.said i.settings life.meta life.stream i.stands
      ∙ ap (λ (z : ℤ). item_of o.name o.meta i.settings (life.stream ++ dated bytes z) ∷ []) (in_range moment in_time)
      ∙ ap (λ (x : Item). x ∷ []) (open_said (longer bytes moment life) (with_channel fed.channel o) (longer_open life i))

found_longer : (choose : Chooser) (m : State) (channel bytes : List ℕ) (spot : Option Spot) (moment : ℤ) (life : ChannelHistory) →
    life_in m channel ≡ Some life →
    life_in (stepped choose m (Block channel bytes spot) moment) channel ≡ Some (longer bytes moment life)
found_longer choose m channel bytes spot moment life found =
    find_change life_name channel channel (longer bytes moment) (λ l. refl) m.channels
    ∙ ap (λ (b : Bool). if b then option_map (longer bytes moment) (life_in m channel) else life_in m channel)
    (bytes_same channel channel refl)
    ∙ ap (option_map (longer bytes moment)) found

pub block_works : (choose : Chooser) (history : List TimedCommand) (channel bytes : List ℕ) (spot : Option Spot) (moment : ℤ)
    (held : StoreState) (at : ℕ) (o : OpenChannel) (fed : Fed) →
    MayBeDone choose history (Block channel bytes spot) moment held → position (has_name channel) held.channels.items ≡ Some at →
    at < length held.channels.items →
    o ≡ get_or held.channels.items at o → IsFed o bytes moment fed →
    IsWorked choose history (Block channel bytes spot) moment held
    (record { change = change.Fed at fed.channel; outcomes = fed.outcomes; items = fed.items })
block_works choose history channel bytes spot moment held at o fed may place within there is =
    let m : State = state_after choose history in
    let at_place = stands channel held.channels.items at place in
    let of = life_at channel at m.channels held.channels.items o at_place may.sees.channels there in
    record {
      channels = changed_at channel at (longer bytes moment) (with_channel fed.channel) m.channels held.channels.items o at_place
          may.sees.channels there
          (λ l found i. longer_open bytes moment may.in_range o fed is l i);
      room = omega (arith, held.channels.ok.0, within);
      outcomes = block_outcomes bytes moment may.in_range o fed is of.life of.is_open ∙ ap (block_adds bytes moment) (sym of.found);
      items = block_said bytes moment may.in_range o fed is of.life of.is_open
          ∙ ap (λ (f : Option ChannelHistory). option_to_list (option_map life_item f))
          (sym (found_longer choose m channel bytes spot moment of.life of.found));
    }

-- the life at the place, as it is before and behind the command
pub block_life : (choose : Chooser) (history : List TimedCommand) (channel bytes : List ℕ) (spot : Option Spot) (moment : ℤ)
    (held : StoreState) (at : ℕ) (o : OpenChannel) →
    MayBeDone choose history (Block channel bytes spot) moment held → position (has_name channel) held.channels.items ≡ Some at →
    o ≡ get_or held.channels.items at o →
    (life : ChannelHistory) × (IsOpen life o × (life_in (stepped choose (state_after choose history) (Block channel bytes spot) moment)
    channel ≡ Some (longer bytes moment life)))
block_life choose history channel bytes spot moment held at o may place there =
    let m : State = state_after choose history in
    let of = life_at channel at m.channels held.channels.items o (stands channel held.channels.items at place) may.sees.channels there in
    (of.life, (of.is_open, found_longer choose m channel bytes spot moment of.life of.found))

-- ---- an End

end_open : (m : State) (channel : List ℕ) → judged m (End channel) ≡ None → is_some (life_in m channel) ≡ true
end_open m channel h = may_take (is_some (life_in m channel)) h

pub none_ended : (choose : Chooser) (history : List TimedCommand) (channel : List ℕ) (moment : ℤ) (held : StoreState) →
    MayBeDone choose history (End channel) moment held → position (has_name channel) held.channels.items ≡ None → ⊥
none_ended choose history channel moment held may e =
    let m : State = state_after choose history in
    there_by (life_in m channel) (end_open m channel may.no_cause) (not_open channel m.channels held.channels.items may.sees.channels e)

pub end_outcomes : (life : ChannelHistory) (o : OpenChannel) (outcomes : List Routed) → IsOpen life o → Settles o.channel outcomes →
    outcomes ≡ end_adds (Some life)
end_outcomes life o outcomes i is =
    let before : List Routed = settled i.settings life.meta life.stream false in
    sym (drop-append_seam before outcomes)
    ∙ ap (λ (l : List Routed). drop (length before) l) (sym (is i.settings life.meta life.stream i.stands))
    ∙ ap (λ (l : List Routed). drop (length before) l) (same.settle i.settings life.settings life.meta life.stream true i.same)
    ∙ ap (λ (b : List Routed). drop (length b) (settled life.settings life.meta life.stream true))
    (same.settle i.settings life.settings life.meta life.stream false i.same)

pub end_works : (choose : Chooser) (history : List TimedCommand) (channel : List ℕ) (moment : ℤ) (held : StoreState) (at : ℕ)
    (o : OpenChannel) (outcomes : List Routed) →
    MayBeDone choose history (End channel) moment held → position (has_name channel) held.channels.items ≡ Some at →
    at < length held.channels.items →
    o ≡ get_or held.channels.items at o → Settles o.channel outcomes →
    IsWorked choose history (End channel) moment held (record {
      change = change.Ended at;
      outcomes = outcomes;
      items = items.Ended o.name
          ∷ [];
    })
end_works choose history channel moment held at o outcomes may place within there is =
    let m : State = state_after choose history in
    let at_place = stands channel held.channels.items at place in
    let of = life_at channel at m.channels held.channels.items o at_place may.sees.channels there in
    record {
      channels = removed_at channel at m.channels held.channels.items at_place may.sees.channels;
      room = omega (arith, held.channels.ok.0, within);
      outcomes = end_outcomes of.life o outcomes of.is_open is ∙ ap end_adds (sym of.found);
      items = ap (λ (n : List ℕ). items.Ended n ∷ []) (of.is_open.name ∙ found_name life_name channel of.life m.channels of.found);
    }

pub end_life : (choose : Chooser) (history : List TimedCommand) (channel : List ℕ) (moment : ℤ) (held : StoreState) (at : ℕ)
    (o : OpenChannel) →
    MayBeDone choose history (End channel) moment held → position (has_name channel) held.channels.items ≡ Some at →
    o ≡ get_or held.channels.items at o →
    (life : ChannelHistory) × (IsOpen life o × (life_in (state_after choose history) channel ≡ Some life))
end_life choose history channel moment held at o may place there =
    let m : State = state_after choose history in
    let of = life_at channel at m.channels held.channels.items o (stands channel held.channels.items at place) may.sees.channels there in
    (of.life, (of.is_open, of.found))
