-- What is made of the items of a history's log is the state that the history leads to, and no such
-- log is refused.
use Rattle.std.proofs.Common.{◌≡◌, inl, inr, ℕ, true, false, List, [], ◌∷◌, map, refl, sym, ap, subst, ◌∙◌}
use Rattle.std.specs.Prelude.{Option, None, is_some, reverse}
use Rattle.std.specs.List.{AllByRecursion, AllZip, Any}
use Rattle.std.specs.List.Sorted.{IsPermutation, IsSortedBy}
use Rattle.std.proofs.lemmas.Cmp.{nat_list_cmp_total}
use Rattle.std.proofs.lemmas.List.Elements.{All-from_recursion}
use Rattle.std.proofs.lemmas.List.Sorted.{IsPermutation-reverse, IsPermutation-sym, IsPermutation-trans, ranks_by}
use Rattle.ix_parse.specs.Form.{IsCarryOf}
use Rattle.ix_parse.specs.Spelling.{spell}
use Rattle.ix_bounds.specs.Names.{CommandBringsLimits, BringsLimits, HasName}
use Rattle.ix_bounds.specs.Shelving.{AreSettings as HasLimits}
use Rattle.ix_bounds.proofs.Volumes.{names_are_no_volumes}
use Rattle.ix_items.specs.declared.items.Entry.{Entry}
use Rattle.ix_items.specs.declared.items.Item.{Item}
use Rattle.ix_items.specs.declared.items.Kept.{Kept}
use Rattle.ix_state.proofs.Brief.{source_type_brief}
use Rattle.ix_state.specs.Configs.{IsChooser, IsConfig, layer_in}
use Rattle.ix_state.specs.Taken.{IsTakenCommand, AreGiven}
use Rattle.ix_life.specs.Retired.{HaveStanzas}
use Rattle.ix_life.proofs.RetiredLemmas.{merged_stanzas}
use Rattle.ix_model.specs.Given.{Chooser, entries}
use Rattle.ix_model.specs.Ledger.{all_frozen}
use Rattle.ix_model.specs.Ranked.{ranks_before, ranked}
use Rattle.ix_model.specs.State.{State, ChannelHistory, life_name, index_name, spot_path}
use Rattle.ix_model.specs.Step.{state_after}
use Rattle.ix_model.specs.declared.commands.Command.{Command}
use Rattle.ix_model.specs.declared.commands.Command.TheVariants.{Begin, Block, End, Tick, Roll, Thaw, Configure, Direct}
use Rattle.ix_model.specs.declared.commands.Config.{Config}
use Rattle.ix_model.specs.declared.commands.TimedCommand.{TimedCommand}
use Rattle.ix_model.proofs.Ascending.{in_order_after}
use Rattle.ix_model.proofs.Ledgers.{all_after, same_entries}
use Rattle.ix_model.proofs.Ranking.{ranked_moved, ranked_rises}
use Rattle.ix_model.proofs.Stepping.{sound_after}
use Rattle.ix_parse.specs.Carry.{rules_of, carry_of}
use Rattle.ix_parse.proofs.SameLemmas.{carry}
use Rattle.ix_props.specs.Same.{AreSame}
use Rattle.ix_props.specs.Settings.{AreSettings, AreUsable}
use Rattle.ix_props.specs.declared.settings.Settings.{Settings}
use Rattle.ix_manifest.specs.Book.{empty, replay}
use Rattle.ix_replay.specs.Fits.{fits}
use Rattle.ix_replay.specs.Lists.{AreListed, Lists}
use Rattle.ix_replay.proofs.OneList.{one_book}
use Rattle.ix_catalog.specs.Lists.{stands_before, AreAscending}
use Rattle.ix_model.specs.Shelved.{IsSet, shelved, shelved_indexes}
use Rattle.ix_model.specs.Snap.{snapshot_of}
use Rattle.ix_state.specs.Held.{IsOpen, shelves_of, Holds}
use Rattle.ix_state.specs.declared.state.StoreState.{StoreState}
use Rattle.ix_state.specs.declared.state.OpenChannel.{OpenChannel}
use Rattle.ix_store.specs.Written.{over}
use Rattle.ix_store.specs.declared.faulty_item.FaultyItem.{FaultyItem}
use Rattle.ix_recovery.specs.Listed.{left_items, removal_item, all_items}
use Rattle.ix_recovery.proofs.ListFitting.{removals_listed, fits_within}
use Rattle.ix_recovery.proofs.Listing.{states_are_listed}
use Rattle.ix_recovery.specs.declared.gathering.Carried.{Carried}
use Rattle.ix_recovery.specs.declared.gathering.GatheredItems.{GatheredItems}
use Rattle.ix_recovery.specs.Gathered.{nothing, all_taken}
use Rattle.ix_recovery.specs.Recalled.{carried_name, itself, AreSorted, IsResumed, IsNoChannel, IsIndexOf, IsRecalled, IsNoState, IsLog}
use Rattle.ix_recovery.specs.Standing.{carried_life, IsGathered}
use Rattle.ix_recovery.proofs.CarryForms.{form_of}
use Rattle.ix_recovery.proofs.Defaults.{IsForce}
use Rattle.ix_recovery.proofs.Gathers.{gathered}
use Rattle.ix_recovery.proofs.IndexBuckets.{names_climb, mapped_climb, are_indexes}
use Rattle.ix_recovery.proofs.Ledgers.{permuted}
use Rattle.ix_recovery.proofs.Lives.{KeepsLife, lives_kept}
use Rattle.ix_recovery.proofs.Said.{all_said}
use Rattle.ix_recovery.proofs.Shuffles.{sorted_same}

-- ---- what was gathered of a log

log_gathered : (choose : Chooser) (history : List TimedCommand) (said : List Item) → AreListed said → IsLog choose history said →
    IsGathered (state_after choose history) (all_taken said nothing)
log_gathered choose history said listed log =
    let book = (snapshot_of choose history).book in
    let lists : Lists said (over log.run log.removed book) = record { stands = sym log.is; listed = listed } in
    let o = removals_listed said log.run log.removed book lists in
    let canon = all_items log.run o.0 (left_items choose history) in
    gathered (state_after choose history) canon said (all_said choose history log.run o.0)
    (one_book (over log.run (removal_item o.0) book) canon said (states_are_listed choose history log.run o.0)
    (subst (λ (r : Option Item). Lists said (over log.run r book)) o.1 lists))

-- ---- order

by_names : {X : Type 0} (name_of : X → List ℕ) (all given sorted : List X) → AreAscending name_of all → IsPermutation all given →
    AreSorted name_of given sorted → sorted ≡ all
by_names name_of all given sorted ascending moved in_order =
    sorted_same (stands_before name_of) (ranks_by nat_list_cmp_total name_of) all sorted
    (IsPermutation-trans all given sorted moved in_order.same) in_order.rising
    (names_climb name_of all ascending)

channels_same : (m : State) (given sorted : List Carried) → AreAscending life_name m.channels →
    IsPermutation (map carried_life m.channels) given →
    AreSorted carried_name given sorted → sorted ≡ map carried_life m.channels
channels_same m given sorted ascending moved in_order =
    by_names carried_name (map carried_life m.channels) given sorted
    (mapped_climb life_name carried_life carried_name (λ l. refl) m.channels ascending) moved in_order

-- ---- channels

module _ (choose : Chooser) (force : List Kept) (config : Config) (chooser : IsChooser choose) (is_config : IsConfig config)
    (kept : config.kept ≡ force) where
  -- what is chosen for a channel means the same as what it was begun with
  same_settings : (life : ChannelHistory) (settings : Settings) → KeepsLife choose force life →
      AreSettings config.props life.meta settings → AreSame settings life.settings
  same_settings life settings keeps chosen =
      subst (AreSame settings) (ap (λ (k : List Kept). choose k life.meta) kept
      ∙ sym keeps.chosen) (chooser config is_config life.meta settings chosen)

  is_carry : (life : ChannelHistory) (settings : Settings) → KeepsLife choose force life → AreSettings config.props life.meta settings →
      AreUsable settings →
      IsCarryOf (rules_of settings) (carried_life life).carry (carry_of settings life.stream)
  is_carry life settings keeps chosen usable = record {
    form = form_of settings life.stream usable keeps.moments;
    spelled = ap spell (sym (carry settings life.settings life.stream (same_settings life settings keeps chosen)).1);
  }

  goes_on : (life : ChannelHistory) (held : OpenChannel) → KeepsLife choose force life → IsResumed config.props (carried_life life) held →
      IsOpen life held
  goes_on life held keeps r = record {
    name = r.name;
    meta = r.meta;
    settings = r.settings;
    same = same_settings life r.settings keeps r.chosen;
    usable = r.usable;
    limits = record {
      host = keeps.host;
      source = keeps.source;
      sourcetype = source_type_brief config.kept config.props life.meta.sourcetype life.meta.source r.settings.sourcetype is_config.props
          keeps.sourcetype r.chosen.sourcetype;
      index = keeps.index;
    };
    stands = r.stands life.stream (is_carry life r.settings keeps r.chosen r.usable);
    moments = keeps.moments;
  }

  all_go_on : (lives : List ChannelHistory) (channels : List OpenChannel) → AllByRecursion (KeepsLife choose force) lives →
      AllZip (IsResumed config.props) (map carried_life lives) channels →
      AllZip IsOpen lives channels
  all_go_on [] [] keeps r = tt
  all_go_on [] (held ∷ channels) keeps r = absurd r
  all_go_on (life ∷ lives) [] keeps r = absurd r
  all_go_on (life ∷ lives) (held ∷ channels) keeps r = (goes_on life held keeps.0 r.0, all_go_on lives channels keeps.1 r.1)

  not_none : (o : Option (List ℕ)) → is_some o ≡ true → o ≡ None → ⊥
  not_none o some none = let no : true ≡ false = sym some ∙ ap is_some none in cc

  -- each of them can go on
  is_channel : (life : ChannelHistory) → KeepsLife choose force life → IsNoChannel config.props (carried_life life) → ⊥
  is_channel life keeps (inl none) = not_none life.meta.index keeps.named none
  is_channel life keeps (inr has) = has.none (carry_of has.settings life.stream) (is_carry life has.settings keeps has.chosen has.usable)

  are_channels : (lives : List ChannelHistory) → AllByRecursion (KeepsLife choose force) lives →
      AllByRecursion (λ (c : Carried). IsNoChannel config.props c → ⊥) (map carried_life lives)
  are_channels [] keeps = tt
  are_channels (life ∷ lives) keeps = (is_channel life keeps.0, are_channels lives keeps.1)

  none_refused : (lives : List ChannelHistory) → AllByRecursion (KeepsLife choose force) lives →
      Any (IsNoChannel config.props) (map carried_life lives) → ⊥
  none_refused lives keeps any =
      let x : Carried = any.1 in
      let each = All-from_recursion (λ (c : Carried). IsNoChannel config.props c →
      ⊥) (map carried_life lives) (are_channels lives keeps) any.0 x any.2 in
      each (subst (IsNoChannel config.props) (sym any.3) any.4)

-- ---- shelves and ledger

ledger_moved : (choose : Chooser) (history : List TimedCommand) (given : List Entry) →
    IsPermutation (all_frozen (state_after choose history).catalog.indexes) given →
    IsPermutation given (state_after choose history).catalog.ledger
ledger_moved choose history given moved =
    let s = (state_after choose history).catalog in
    IsPermutation-sym s.ledger given
    (IsPermutation-trans s.ledger (all_frozen s.indexes) given
    (permuted s.ledger (all_frozen s.indexes) (same_entries s (all_after choose history))) moved)

entries_seen : (given ledger : List Entry) → IsPermutation given ledger → IsPermutation (ranked (reverse given)) ledger
entries_seen given ledger moved =
    IsPermutation-trans (ranked (reverse given)) (reverse given) ledger
    (IsPermutation-sym (reverse given) (ranked (reverse given)) (ranked_moved (reverse given)))
    (IsPermutation-trans (reverse given) given ledger (IsPermutation-sym given (reverse given) (IsPermutation-reverse given)) moved)

-- settings are brought with their limits, so no index has the name of a volume
brings : (command : Command) → IsTakenCommand command → CommandBringsLimits command
brings (Begin channel meta) taken = tt
brings (Block channel bytes spot) taken = tt
brings (End channel) taken = tt
brings Tick taken = tt
brings (Roll index) taken = tt
brings (Thaw index id) taken = tt
brings (Configure config) taken = taken.limits
brings (Direct events) taken = tt

all_bring : (history : List TimedCommand) → AreGiven history → AllByRecursion BringsLimits history
all_bring [] given = tt
all_bring (order ∷ history) given = (brings order.command given.0, all_bring history given.1)

no_volumes : (choose : Chooser) (history : List TimedCommand) → AreGiven history →
    AllByRecursion HasName (state_after choose history).catalog.indexes
no_volumes choose history given = names_are_no_volumes choose history (all_bring history given)

indexes_seen : (choose : Chooser) (history : List TimedCommand) (g : GatheredItems) (held : StoreState) →
    IsGathered (state_after choose history) g → IsRecalled g held →
    HasLimits (state_after choose history).force held.config.limits → AreGiven history →
    held.view.indexes ≡ shelved_indexes (state_after choose history).force (state_after choose history).catalog.indexes
indexes_seen choose history g held is r set given =
    let m = state_after choose history in
    let all = m.catalog.indexes in
    let ascending = (in_order_after choose history).indexes in
    let same = by_names itself (map index_name all) g.indexes r.indexes.sorted
    (mapped_climb index_name index_name itself (λ i. refl) all ascending) is.indexes r.indexes.in_order in
    r.indexes.seen m.force all set
    (subst (λ names. AllZip (IsIndexOf g.buckets) names all) (sym same)
    (are_indexes all g.buckets ascending (sound_after choose history) is.buckets_are))
    (no_volumes choose history given) ascending

shelves_seen : (choose : Chooser) (history : List TimedCommand) (g : GatheredItems) (held : StoreState) →
    IsGathered (state_after choose history) g → IsRecalled g held →
    HasLimits (state_after choose history).force held.config.limits → AreGiven history →
    shelves_of held ≡ shelved (state_after choose history).force (state_after choose history).catalog
shelves_seen choose history g held is r set given =
    let indexes = indexes_seen choose history g held is r set given in
    let settled = r.settled ∙ ap (λ c. c.settled) is.counts in
    let nulled = r.nulled ∙ ap (λ c. c.nulled) is.counts in
    let dropped = r.dropped ∙ ap (λ c. c.dropped) is.counts in
    let placed = r.placed ∙ ap (λ c. c.placed) is.counts in
    let next_file = r.next_file ∙ is.next_file in
    λ i. record {
      indexes = indexes i;
      settled = settled i;
      nulled = nulled i;
      dropped = dropped i;
      placed = placed i;
      next_file = next_file i;
    }

-- ---- all of it

pub holds : (choose : Chooser) (history : List TimedCommand) (said : List Item) (held : StoreState) → AreListed said →
    IsLog choose history said → fits (replay said empty) →
    IsRecalled (all_taken said nothing) held → Holds choose history held
holds choose history said held listed log fit r =
    let m = state_after choose history in
    let g = all_taken said nothing in
    let is = log_gathered choose history said listed log in
    let order = in_order_after choose history in
    let keeps = lives_kept choose history log.given in
    let kept : held.config.kept ≡ m.force = r.kept ∙ is.kept in
    let set : IsSet m.force held.config.limits = subst (λ (k : List Kept). IsSet k held.config.limits) kept r.config.limits in
    let stanzas : HaveStanzas (entries m.force) =
    subst (λ (k : List Kept). HaveStanzas (entries k)) kept
    (merged_stanzas (layer_in 3 held.config.kept ∷ []) (entries held.config.kept) r.config.order.indexes) in
    let sorted = channels_same m g.channels r.channels.sorted order.channels is.channels r.channels.in_order in
    record {
      channels = record {
        kept = kept;
        set = set;
        config = r.config;
        channels = all_go_on choose m.force held.config log.chooser r.config kept m.channels held.channels.items keeps.lives
            (subst (λ l. AllZip (IsResumed held.config.props) l held.channels.items) sorted r.channels.resumed);
        spots = by_names spot_path m.spots g.spots held.spots.items order.spots is.spots r.spots;
      };
      storage = record {
        shelves_are = shelves_seen choose history g held is r (record { stanzas = stanzas; set_is = set }) log.given;
        ledger_is = subst (λ l. IsPermutation l m.catalog.ledger) (sym r.ledger)
            (entries_seen g.entries m.catalog.ledger (ledger_moved choose history g.entries is.entries));
        ledger_rises = subst (IsSortedBy ranks_before) (sym r.ledger) (ranked_rises (reverse g.entries));
        last_is = r.last ∙ is.last;
        tick_is = r.tick ∙ is.tick;
      };
      bounds = fits_within choose history log.run log.removed (subst fits log.is fit);
    }

-- there are settings in force, or none
has_config : (force kept : List Kept) → IsForce force → kept ≡ force → (kept ≡ [] → ⊥) →
    ((config : Config) → IsConfig config → config.kept ≡ kept → ⊥) → ⊥
has_config force kept (inl none) same some refused = some (same ∙ none)
has_config force kept (inr found) same some refused = refused found.0 found.1 (found.2 ∙ sym same)

pub not_refused : (choose : Chooser) (history : List TimedCommand) (said : List Item) (subject : FaultyItem) → AreListed said →
    IsLog choose history said → IsNoState subject (all_taken said nothing) → ⊥
not_refused choose history said subject listed log (inl refused) =
    has_config (state_after choose history).force (all_taken said nothing).kept (lives_kept choose history log.given).force
    (log_gathered choose history said listed log).kept refused.1.some refused.1.none
not_refused choose history said subject listed log (inr refused) =
    let m = state_after choose history in
    let is = log_gathered choose history said listed log in
    let sorted = channels_same m (all_taken said nothing).channels refused.has_bad.sorted (in_order_after choose history).channels
    is.channels refused.has_bad.in_order in
    none_refused choose m.force refused.config log.chooser refused.is_config (refused.kept
    ∙ is.kept) m.channels (lives_kept choose history log.given).lives
    (let bad = refused.has_bad.bad in subst (Any (IsNoChannel refused.config.props)) sorted (bad.0, bad.1, bad.2, bad.3, bad.4.1))
