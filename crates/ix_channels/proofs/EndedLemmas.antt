-- All channels in memory that end are those of the machine.
use Rattle.std.proofs.Common.{◌≡◌, ℕ, ℤ, zero, suc, ◌+◌, ◌<◌, ◌≤◌, List, [], ◌∷◌, ◌++◌, map, refl, sym, ap, ◌∙◌, subst, length, take}
use Rattle.std.proofs.Common.{get_or, append-nil, arith}
use Rattle.std.specs.List.{All, AllZip, AllByRecursion, flat_map}
use Rattle.std.proofs.lemmas.List.{map-append, take_more, take_all}
use Rattle.std.proofs.lemmas.List.Concat.{flat_map-append}
use Rattle.std.proofs.lemmas.List.Elements.{All-append}
use Rattle.ix_base.specs.declared.events.Routed.{Routed}
use Rattle.ix_items.specs.Spelling.{HasSpelling}
use Rattle.ix_items.specs.declared.items.Item.{Item}
use Rattle.ix_items.specs.declared.items.Item.TheVariants as items
use Rattle.ix_life.specs.declared.sets.LimitSet.{LimitSet}
use Rattle.ix_model.specs.Given.{Chooser}
use Rattle.ix_model.specs.State.{ChannelHistory}
use Rattle.ix_model.specs.Step.{state_after}
use Rattle.ix_model.specs.declared.commands.Command.TheVariants.{Configure}
use Rattle.ix_model.specs.declared.commands.Config.{Config}
use Rattle.ix_model.specs.declared.commands.TimedCommand.{TimedCommand}
use Rattle.ix_catalog.specs.Numbers.{HasRecord}
use Rattle.ix_catalog.proofs.Updates.{all_push}
use Rattle.ix_model.specs.Said as said
use Rattle.ix_state.specs.Held.{IsOpen}
use Rattle.ix_state.specs.declared.state.StoreState.{StoreState}
use Rattle.ix_state.specs.declared.state.OpenChannel.{OpenChannel}
use Rattle.ix_channels.specs.Ended.{ended_item, life_adds, HasShortName, AreEnded}
use Rattle.ix_channels.specs.Taken.{Settles}
use Rattle.ix_channels.specs.Working.{MayBeDone, IsWorked}
use Rattle.ix_channels.specs.declared.change.ChannelChange.TheVariants as change
use Rattle.ix_channels.specs.declared.endings.Endings.{Endings}
use Rattle.ix_channels.specs.declared.channel_effect.ChannelEffect.{ChannelEffect}
use Rattle.ix_channels.proofs.Alike.{alike}
use Rattle.ix_channels.proofs.TakenLemmas.{end_outcomes}

-- ---- one more

-- lives beside channels of which one is the last
record Split (lives : List ChannelHistory) (ended : List OpenChannel) (o : OpenChannel) : Type 0 where
  front : List ChannelHistory
  life : ChannelHistory
  are : lives ≡ front ++ life ∷ []
  before : AllZip IsOpen front ended
  is_open : IsOpen life o

split : (lives : List ChannelHistory) (ended : List OpenChannel) (o : OpenChannel) → AllZip IsOpen lives (ended ++ o ∷ []) →
    Split lives ended o
split [] [] o h = absurd h
split [] (x ∷ ended) o h = absurd h
split (l ∷ []) [] o h = record { front = []; life = l; are = refl; before = tt; is_open = h.0 }
split (l ∷ k ∷ ls) [] o h = absurd h.1
split (l ∷ ls) (x ∷ ended) o h =
    let rest = split ls ended o h.1 in
    record {
      front = l ∷ rest.front;
      life = rest.life;
      are = ap (λ (xs : List ChannelHistory). l ∷ xs) rest.are;
      before = (h.0, rest.before);
      is_open = rest.is_open;
    }

one_adds : (life : ChannelHistory) → flat_map life_adds (life ∷ []) ≡ life_adds life
one_adds life = append-nil (life_adds life)

pub ended_more : (set : LimitSet) (ended : List OpenChannel) (o : OpenChannel) (old new : Endings) (outcomes : List Routed) (item : Item) →
    AreEnded set ended old →
    new.outcomes.items ≡ old.outcomes.items ++ outcomes → new.items.items ≡ old.items.items ++ item ∷ [] → Settles o.channel outcomes →
    item ≡ items.Ended o.name →
    HasSpelling item → All (HasRecord set) outcomes → AreEnded set (ended ++ o ∷ []) new
ended_more set ended o old new outcomes item so_far outcomes_are items_are settles is proper small = record {
  proper = subst (AllByRecursion HasSpelling) (sym items_are) (all_push HasSpelling old.items.items item so_far.proper proper);
  small = subst (All (HasRecord set)) (sym outcomes_are) (All-append (HasRecord set) old.outcomes.items outcomes so_far.small small);
  said = items_are ∙ ap (λ (l : List Item). l ++ item ∷ []) so_far.said ∙ ap (λ (x : Item). map ended_item ended ++ x ∷ []) is
      ∙ sym (map-append ended_item ended (o ∷ []));
  settles = λ lives zip.
      let s = split lives ended o zip in
      outcomes_are ∙ ap (λ (l : List Routed). l ++ outcomes) (so_far.settles s.front s.before)
      ∙ ap (λ (l : List Routed). flat_map life_adds s.front ++ l) (end_outcomes s.life o outcomes s.is_open settles ∙ sym (one_adds s.life))
      ∙ sym (flat_map-append life_adds s.front (s.life ∷ []))
      ∙ ap (flat_map life_adds) (sym s.are);
}

-- ---- the channel at a place

pub record HasLife (o : OpenChannel) (lives : List ChannelHistory) : Type 0 where
  pub life : ChannelHistory
  pub is_open : IsOpen life o
  pub short : HasShortName life

pub life_of : (lives : List ChannelHistory) (os : List OpenChannel) (k : ℕ) (o : OpenChannel) → AllZip IsOpen lives os →
    AllByRecursion HasShortName lives → k < length os → o ≡ get_or os k o → HasLife o lives
life_of [] [] k o h s l e = absurd (omega arith)
life_of [] (x ∷ os) k o h s l e = absurd h
life_of (v ∷ lives) [] k o h s l e = absurd h
life_of (v ∷ lives) (x ∷ os) zero o h s l e = record { life = v; is_open = subst (IsOpen v) (sym e) h.0; short = s.0 }
life_of (v ∷ lives) (x ∷ os) (suc k) o h s l e =
    let rest = life_of lives os k o h.1 s.1 (omega arith) e in
    record { life = rest.life; is_open = rest.is_open; short = rest.short }

-- ---- the command

same_items : (lives : List ChannelHistory) (os : List OpenChannel) → AllZip IsOpen lives os → map ended_item os ≡ map said.ended_item lives
same_items [] [] h = refl
same_items [] (o ∷ os) h = absurd h
same_items (l ∷ ls) [] h = absurd h
same_items (l ∷ ls) (o ∷ os) h =
    ap (λ (n : List ℕ). items.Ended n ∷ map ended_item os) h.0.name ∙ ap (λ (xs : List Item). said.ended_item l ∷ xs) (same_items ls os h.1)

pub end_all_works : (choose : Chooser) (history : List TimedCommand) (config : Config) (moment : ℤ) (held : StoreState) (endings : Endings)
    (worked : ChannelEffect) →
    MayBeDone choose history (Configure config) moment held → AreEnded held.config.limits held.channels.items endings →
    worked.change ≡ change.AllEnded → worked.outcomes ≡ endings.outcomes.items → worked.items ≡ endings.items.items →
    IsWorked choose history (Configure config) moment held worked
end_all_works choose history config moment held endings worked may ended change_is outcomes_are items_are =
    alike choose history (Configure config) moment held worked
    (record { change = change.AllEnded; outcomes = endings.outcomes.items; items = endings.items.items })
    change_is outcomes_are items_are (record {
      channels = tt;
      room = tt;
      outcomes = ended.settles (state_after choose history).channels may.sees.channels;
      items = ended.said ∙ same_items (state_after choose history).channels held.channels.items may.sees.channels;
    })

-- no channel ended yet
pub none_yet : (set : LimitSet) (endings : Endings) → endings.outcomes.items ≡ [] → endings.items.items ≡ [] → AreEnded set [] endings
none_yet set endings outcomes items = record {
  proper = subst (AllByRecursion HasSpelling) (sym items) tt;
  small = subst (All (HasRecord set)) (sym outcomes) (λ k d h. absurd (omega (arith, h)));
  said = items;
  settles = λ lives zip. outcomes ∙ none_settle lives zip;
}
  where
    none_settle : (lives : List ChannelHistory) → AllZip IsOpen lives [] → [] ≡ flat_map life_adds lives
    none_settle [] zip = refl
    none_settle (l ∷ lives) zip = absurd zip

-- a channel more of a list, and all of them
pub ended_step : (set : LimitSet) (xs : List OpenChannel) (i : ℕ) (o : OpenChannel) (new : Endings) → i < length xs → o ≡ get_or xs i o →
    AreEnded set (take i xs ++ o ∷ []) new →
    AreEnded set (take (i + 1) xs) new
ended_step set xs i o new within is h =
    subst (λ (l : List OpenChannel). AreEnded set l new)
    (sym (take_more xs i o within ∙ ap (λ (x : OpenChannel). take i xs ++ x ∷ []) (sym is))) h

pub ended_all : (set : LimitSet) (xs : List OpenChannel) (i : ℕ) (endings : Endings) → length xs ≤ i → AreEnded set (take i xs) endings →
    AreEnded set xs endings
ended_all set xs i endings past h = subst (λ (l : List OpenChannel). AreEnded set l endings) (take_all i xs past) h
