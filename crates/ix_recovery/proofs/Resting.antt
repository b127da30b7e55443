-- What is put of a state behind its settings.
use Rattle.std.proofs.Common.{◌≡◌, true, false, List, [], ◌++◌, sym, ap, subst, ◌∙◌, append_assoc}
use Rattle.std.specs.List.{AllByRecursion, AllZip, flat_map}
use Rattle.ix_base.specs.declared.events.Spot.{Spot}
use Rattle.ix_items.specs.Spelling.{IsInRange}
use Rattle.ix_items.specs.declared.items.Entry.{Entry}
use Rattle.ix_items.specs.declared.items.Item.{Item}
use Rattle.ix_life.specs.declared.views.IndexView.{IndexView}
use Rattle.ix_recovery.proofs.Members.{all_append}
use Rattle.ix_state.specs.declared.state.StoreState.{StoreState}
use Rattle.ix_state.specs.declared.state.OpenChannel.{OpenChannel}
use Rattle.ix_recovery.specs.Putting.{count_items, view_items, entry_item, spot_item, number_items, shelf_items, setting_items, IsSaid}
use Rattle.ix_recovery.specs.Putting.{AreSaid, IsRest, AreHeld}
use Rattle.ix_recovery.proofs.Putting.{said_ranged}

-- one list behind another, and others behind both
pub five : {X : Type 0} (a b c d e f g : List X) → (((((a ++ b) ++ c) ++ d) ++ e) ++ f) ++ g ≡ a ++ (b ++ (c ++ (d ++ (e ++ (f ++ g)))))
five a b c d e f g =
    append_assoc ((((a ++ b) ++ c) ++ d) ++ e) f g
    ∙ append_assoc (((a ++ b) ++ c) ++ d) e (f ++ g)
    ∙ append_assoc ((a ++ b) ++ c) d (e ++ (f ++ g))
    ∙ append_assoc (a ++ b) c (d ++ (e ++ (f ++ g)))
    ∙ append_assoc a b (c ++ (d ++ (e ++ (f ++ g))))

pub all_put : {X : Type 0} (a b c d e f g l1 l2 l3 l4 l5 l6 : List X) → l1 ≡ a ++ b → l2 ≡ l1 ++ c → l3 ≡ l2 ++ d → l4 ≡ l3 ++ e → l5 ≡ l4
    ++ f → l6 ≡ l5 ++ g →
    l6 ≡ a ++ (b ++ (c ++ (d ++ (e ++ (f ++ g)))))
all_put {X} a b c d e f g l1 l2 l3 l4 l5 l6 p1 p2 p3 p4 p5 p6 =
    let q2 : l2 ≡ (a ++ b) ++ c = p2 ∙ ap (λ (l : List X). l ++ c) p1 in
    let q3 : l3 ≡ ((a ++ b) ++ c) ++ d = p3 ∙ ap (λ (l : List X). l ++ d) q2 in
    let q4 : l4 ≡ (((a ++ b) ++ c) ++ d) ++ e = p4 ∙ ap (λ (l : List X). l ++ e) q3 in
    let q5 : l5 ≡ ((((a ++ b) ++ c) ++ d) ++ e) ++ f = p5 ∙ ap (λ (l : List X). l ++ f) q4 in
    p6 ∙ ap (λ (l : List X). l ++ g) q5 ∙ five a b c d e f g

pub rest_ranged : (held : StoreState) (channels : List Item) → AllZip IsSaid held.channels.items channels →
    AllByRecursion IsInRange (count_items held) →
    AllByRecursion IsInRange (flat_map view_items held.view.indexes) → AllByRecursion IsInRange (flat_map entry_item held.view.ledger) →
    AllByRecursion IsInRange (flat_map spot_item held.spots.items) →
    AllByRecursion IsInRange (flat_map (number_items held.view.ledger) held.view.indexes) →
    AllByRecursion IsInRange (count_items held ++ (channels ++ shelf_items held))
rest_ranged held channels said counts buckets entries spots numbers =
    all_append IsInRange (count_items held) _ counts
    (all_append IsInRange channels _ (said_ranged held.channels.items channels said)
    (all_append IsInRange (flat_map view_items held.view.indexes) _ buckets
    (all_append IsInRange (flat_map entry_item held.view.ledger) _ entries
    (all_append IsInRange (flat_map spot_item held.spots.items) _ spots numbers))))

-- one part after the other
pub rest_is : (held : StoreState) (opens : List OpenChannel) (indexes : List IndexView) (ledger : List Entry) (spots : List Spot)
    (start a b d e f g : List Item) →
    opens ≡ held.channels.items → indexes ≡ held.view.indexes → ledger ≡ held.view.ledger → spots ≡ held.spots.items →
    (a ≡ start ++ count_items held) × AllByRecursion IsInRange (count_items held) → AreSaid opens a b →
    (d ≡ b ++ flat_map view_items indexes) × AllByRecursion IsInRange (flat_map view_items indexes) →
    (e ≡ d ++ flat_map entry_item ledger) × AllByRecursion IsInRange (flat_map entry_item ledger) →
    (f ≡ e ++ flat_map spot_item spots) × AllByRecursion IsInRange (flat_map spot_item spots) →
    (g ≡ f ++ flat_map (number_items ledger) indexes) × AllByRecursion IsInRange (flat_map (number_items ledger) indexes) →
    IsRest held start g
rest_is held opens indexes ledger spots start a b d e f g opens_are indexes_are ledger_is spots_are counts says buckets entries marks
    numbers =
    let said : AllZip IsSaid held.channels.items says.channels = subst (λ os. AllZip IsSaid os says.channels) opens_are says.said in
    let views : flat_map view_items indexes ≡ flat_map view_items held.view.indexes = ap (flat_map view_items) indexes_are in
    let frozen : flat_map entry_item ledger ≡ flat_map entry_item held.view.ledger = ap (flat_map entry_item) ledger_is in
    let watched : flat_map spot_item spots ≡ flat_map spot_item held.spots.items = ap (flat_map spot_item) spots_are in
    let next : flat_map (number_items ledger) indexes ≡ flat_map (number_items held.view.ledger) held.view.indexes =
    (λ j. flat_map (number_items (ledger_is j)) (indexes_are j)) in
    record {
      channels = says.channels;
      said = said;
      put =
          all_put start (count_items held) says.channels (flat_map view_items held.view.indexes) (flat_map entry_item held.view.ledger)
          (flat_map spot_item held.spots.items) (flat_map (number_items held.view.ledger) held.view.indexes) a b d e f g counts.0 says.put
          (buckets.0 ∙ ap (λ l. b ++ l) views) (entries.0 ∙ ap (λ l. d ++ l) frozen) (marks.0 ∙ ap (λ l. e ++ l) watched) (numbers.0
          ∙ ap (λ l. f ++ l) next);
      ranged =
          rest_ranged held says.channels said counts.1 (subst (AllByRecursion IsInRange) views buckets.1)
          (subst (AllByRecursion IsInRange) frozen entries.1)
          (subst (AllByRecursion IsInRange) watched marks.1) (subst (AllByRecursion IsInRange) next numbers.1);
    }

-- with the settings before it
pub all_held : (held : StoreState) (a b : List Item) → (a ≡ setting_items held) × AllByRecursion IsInRange (setting_items held) →
    IsRest held a b → AreHeld false held b
all_held held a b settings rest = record {
  channels = rest.channels;
  said = λ e. rest.said;
  are = rest.put ∙ ap (λ l. l ++ (count_items held ++ (rest.channels ++ shelf_items held))) settings.0;
  ranged = subst (AllByRecursion IsInRange) (sym rest.put)
      (all_append IsInRange a _ (subst (AllByRecursion IsInRange) (sym settings.0) settings.1) rest.ranged);
}

true_false : true ≡ false → ⊥
true_false e = cc

-- the settings alone
pub fresh_held : (held : StoreState) (a : List Item) → (a ≡ setting_items held) × AllByRecursion IsInRange (setting_items held) →
    AreHeld true held a
fresh_held held a settings = record {
  channels = [];
  said = λ e. absurd (true_false e);
  are = settings.0;
  ranged = subst (AllByRecursion IsInRange) (sym settings.0) settings.1;
}
