-- Of no item of a list from which a state has come, none comes.
use Rattle.std.proofs.Common.{◌≡◌, ℕ, List, [], ◌∷◌, refl, sym, ap, ◌∙◌, subst, inl, inr}
use Rattle.std.specs.List.{AllByRecursion, AllZip}
use Rattle.std.proofs.lemmas.List.Elements.{All-from_recursion, recursion_from_All}
use Rattle.std.proofs.lemmas.List.Sorted.{All-permutation, IsPermutation-sym}
use Rattle.ix_base.specs.declared.events.ChannelMeta.{ChannelMeta}
use Rattle.ix_items.specs.declared.items.Item.{Item}
use Rattle.ix_items.specs.declared.items.Item.TheVariants as items
use Rattle.ix_items.specs.declared.items.Kept.{Kept}
use Rattle.ix_manifest.specs.Book.{empty, replay}
use Rattle.ix_model.specs.Given.{Chooser}
use Rattle.ix_model.specs.declared.commands.Config.{Config}
use Rattle.ix_parse.specs.Carry.{rules_of}
use Rattle.ix_parse.specs.Form.{IsCarryOf}
use Rattle.ix_parse.specs.declared.carry.CarryRules.{CarryRules}
use Rattle.ix_parse.proofs.SameLemmas.{carry}
use Rattle.ix_props.specs.Settings.{AreSettings}
use Rattle.ix_props.specs.declared.props.PropsEntry.{PropsEntry}
use Rattle.ix_props.specs.declared.settings.Settings.{Settings}
use Rattle.ix_replay.specs.Lists.{AreListed, Lists}
use Rattle.ix_state.specs.Configs.{IsChooser, IsConfig}
use Rattle.ix_state.specs.declared.state.OpenChannel.{OpenChannel}
use Rattle.ix_state.specs.declared.state.StoreState.{StoreState}
use Rattle.ix_store.specs.Finding.{kept_of, kept_in, name_in, IsBadIn}
use Rattle.ix_store.specs.declared.faulty_item.FaultyItem.{FaultyItem}
use Rattle.ix_recovery.specs.Among.{IsAmong}
use Rattle.ix_recovery.specs.Gathered.{nothing, all_taken}
use Rattle.ix_recovery.specs.Recalled.{IsResumed, IsNoChannel, IsRecalled, GivesNone}
use Rattle.ix_recovery.specs.declared.gathering.Carried.{Carried}
use Rattle.ix_recovery.proofs.Blamed.{kept_gathered}
use Rattle.ix_recovery.proofs.Booked.{is_in, stands}
use Rattle.ix_recovery.proofs.Members.{among_front, among_behind, all_among}

same_channel : (a b : List ℕ) (m n : ChannelMeta) (x y : List ℕ) → items.Channel a m x ≡ items.Channel b n y →
    ◌≡◌ {A = Carried} (record { name = a; meta = m; carry = x }) (record { name = b; meta = n; carry = y })
same_channel a b m n x y is = cc

-- an open channel of the items is among those that are gathered
channel_gathered : (said : List Item) (name : List ℕ) (meta : ChannelMeta) (carried : List ℕ) →
    IsAmong (items.Channel name meta carried) said →
    IsAmong {X = Carried} (record { name = name; meta = meta; carry = carried }) (all_taken said nothing).channels
channel_gathered [] name meta carried at = absurd at
channel_gathered (items.Channel a m x ∷ rest) name meta carried (inl is) =
    among_behind (record { name = name; meta = meta; carry = carried }) (all_taken rest nothing).channels
    (record { name = a; meta = m; carry = x } ∷ []) (inl (same_channel a name m meta x carried is))
channel_gathered (items.Channel a m x ∷ rest) name meta carried (inr at) =
    among_front (record { name = name; meta = meta; carry = carried }) (all_taken rest nothing).channels
    (record { name = a; meta = m; carry = x } ∷ []) (channel_gathered rest name meta carried at)
channel_gathered (items.Settings kept ∷ rest) name meta carried (inl is) = absurd cc
channel_gathered (items.Settings kept ∷ rest) name meta carried (inr at) = channel_gathered rest name meta carried at
channel_gathered (items.Run run ∷ rest) name meta carried (inl is) = absurd cc
channel_gathered (items.Run run ∷ rest) name meta carried (inr at) = channel_gathered rest name meta carried at
channel_gathered (items.Moments last tick ∷ rest) name meta carried (inl is) = absurd cc
channel_gathered (items.Moments last tick ∷ rest) name meta carried (inr at) = channel_gathered rest name meta carried at
channel_gathered (items.Ended ended ∷ rest) name meta carried (inl is) = absurd cc
channel_gathered (items.Ended ended ∷ rest) name meta carried (inr at) = channel_gathered rest name meta carried at
channel_gathered (items.Bucket index bucket ∷ rest) name meta carried (inl is) = absurd cc
channel_gathered (items.Bucket index bucket ∷ rest) name meta carried (inr at) = channel_gathered rest name meta carried at
channel_gathered (items.Gone index id ∷ rest) name meta carried (inl is) = absurd cc
channel_gathered (items.Gone index id ∷ rest) name meta carried (inr at) = channel_gathered rest name meta carried at
channel_gathered (items.Ledger entry ∷ rest) name meta carried (inl is) = absurd cc
channel_gathered (items.Ledger entry ∷ rest) name meta carried (inr at) = channel_gathered rest name meta carried at
channel_gathered (items.Counts settled nulled dropped placed ∷ rest) name meta carried (inl is) = absurd cc
channel_gathered (items.Counts settled nulled dropped placed ∷ rest) name meta carried (inr at) = channel_gathered rest name meta carried at
channel_gathered (items.Spot spot ∷ rest) name meta carried (inl is) = absurd cc
channel_gathered (items.Spot spot ∷ rest) name meta carried (inr at) = channel_gathered rest name meta carried at
channel_gathered (items.NextFile number ∷ rest) name meta carried (inl is) = absurd cc
channel_gathered (items.NextFile number ∷ rest) name meta carried (inr at) = channel_gathered rest name meta carried at
channel_gathered (items.Removals files ∷ rest) name meta carried (inl is) = absurd cc
channel_gathered (items.Removals files ∷ rest) name meta carried (inr at) = channel_gathered rest name meta carried at
channel_gathered (items.NextId index id ∷ rest) name meta carried (inl is) = absurd cc
channel_gathered (items.NextId index id ∷ rest) name meta carried (inr at) = channel_gathered rest name meta carried at

-- it goes on
abbrev GoesOn : List PropsEntry → Carried → Type 0
GoesOn props carried = (held : OpenChannel) × IsResumed props carried held

all_go_on : (props : List PropsEntry) (sorted : List Carried) (channels : List OpenChannel) → AllZip (IsResumed props) sorted channels →
    AllByRecursion (GoesOn props) sorted
all_go_on props [] [] r = tt
all_go_on props [] (held ∷ channels) r = tt
all_go_on props (carried ∷ sorted) [] r = absurd r
all_go_on props (carried ∷ sorted) (held ∷ channels) r = ((held, r.0), all_go_on props sorted channels r.1)

-- settings that the same settings of files give have the same rules
same_rules : (choose : Chooser) → IsChooser choose → (a b : Config) → IsConfig a → IsConfig b → a.kept ≡ b.kept → (meta : ChannelMeta)
    (s t : Settings) → AreSettings a.props meta s → AreSettings b.props meta t → rules_of s ≡ rules_of t
same_rules choose chooser a b is_a is_b same meta s t of_a of_b =
    (carry s (choose a.kept meta) [] (chooser a is_a meta s of_a)).0
    ∙ ap (λ (kept : List Kept). rules_of (choose kept meta)) same
    ∙ sym (carry t (choose b.kept meta) [] (chooser b is_b meta t of_b)).0

module _ (choose : Chooser) (chooser : IsChooser choose) (said : List Item) (held : StoreState) (listed : AreListed said)
    (r : IsRecalled (all_taken said nothing) held) where
  lists : Lists said (replay said empty)
  lists = record { stands = refl; listed = listed }

  kept_is : held.config.kept ≡ kept_in (replay said empty)
  kept_is = r.kept ∙ kept_gathered said listed

  goes_on : (name : List ℕ) (meta : ChannelMeta) (carried : List ℕ) → IsAmong (items.Channel name meta carried) said →
      GoesOn held.config.props (record { name = name; meta = meta; carry = carried })
  goes_on name meta carried at =
      let given = (all_taken said nothing).channels in
      let sorted = r.channels.sorted in
      let P = GoesOn held.config.props in
      let each = All-from_recursion P sorted (all_go_on held.config.props sorted held.channels.items r.channels.resumed) in
      all_among P (record { name = name; meta = meta; carry = carried }) given
      (recursion_from_All P given (All-permutation P sorted given (IsPermutation-sym given sorted r.channels.in_order.same) each))
      (channel_gathered said name meta carried at)

  channel_goes_on : (name : List ℕ) (meta : ChannelMeta) (carried : List ℕ) → IsAmong (items.Channel name meta carried) said →
      (config : Config) → IsConfig config → config.kept ≡ kept_in (replay said empty) →
      IsNoChannel config.props (record { name = name; meta = meta; carry = carried }) → ⊥
  channel_goes_on name meta carried at config is_config kept (inl none) = (goes_on name meta carried at).1.indexed none
  channel_goes_on name meta carried at config is_config kept (inr has) =
      let on = (goes_on name meta carried at).1 in
      let same = same_rules choose chooser held.config config r.config is_config (kept_is ∙ sym kept) meta on.settings has.settings on.chosen
      has.chosen in
      has.none on.read.0 (subst (λ (rules : CarryRules). IsCarryOf rules carried on.read.0) same on.read.1)

  item_gives : (item : Item) → IsAmong item said → GivesNone (kept_in (replay said empty)) item → ⊥
  item_gives (items.Settings kept) at none =
      none.none held.config r.config (kept_is ∙ ap kept_of (stands said (replay said empty) lists (items.Settings kept) at))
  item_gives (items.Channel name meta carried) at none = channel_goes_on name meta carried at none.config none.is_config none.is_kept none.none
  item_gives (items.Run run) at none = none
  item_gives (items.Moments last tick) at none = none
  item_gives (items.Ended name) at none = none
  item_gives (items.Bucket index bucket) at none = none
  item_gives (items.Gone index id) at none = none
  item_gives (items.Ledger entry) at none = none
  item_gives (items.Counts settled nulled dropped placed) at none = none
  item_gives (items.Spot spot) at none = none
  item_gives (items.NextFile number) at none = none
  item_gives (items.Removals files) at none = none
  item_gives (items.NextId index id) at none = none

  pub none_bad : (subject : FaultyItem) → IsBadIn GivesNone subject (replay said empty) → ⊥
  none_bad subject bad = item_gives bad.0 (is_in said (replay said empty) lists (name_in subject) bad.0 bad.1).0 bad.2
