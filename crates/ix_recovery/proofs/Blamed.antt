-- What is gathered of a list stands in its book: so does an item of which no state comes.
use Rattle.std.proofs.Common.{◌≡◌, List, [], ◌∷◌, Option, Some, None, refl, sym, ap, ◌∙◌, subst, inl, inr}
use Rattle.std.specs.List.{AllByRecursion}
use Rattle.std.proofs.lemmas.List.Elements.{All-from_recursion}
use Rattle.std.proofs.lemmas.List.Sorted.{All-permutation}
use Rattle.ix_items.specs.declared.items.Item.{Item}
use Rattle.ix_items.specs.declared.items.Item.TheVariants as items
use Rattle.ix_items.specs.declared.items.Kept.{Kept}
use Rattle.ix_manifest.specs.Book.{NamedItems, name_of, empty, after_item, replay}
use Rattle.ix_manifest.proofs.Renaming.{replay_at}
use Rattle.ix_replay.specs.Lists.{AreListed}
use Rattle.ix_replay.proofs.OneList.{first_stands}
use Rattle.ix_store.specs.Finding.{settings_name, channel_name, kept_of, kept_in, name_in, IsBadIn}
use Rattle.ix_store.specs.declared.faulty_item.FaultyItem.{FaultyItem}
use Rattle.ix_recovery.specs.Among.{IsAmong}
use Rattle.ix_recovery.specs.Gathered.{nothing, all_taken}
use Rattle.ix_recovery.specs.Recalled.{IsNoState, GivesNone}
use Rattle.ix_recovery.specs.declared.gathering.Carried.{Carried}
use Rattle.ix_recovery.proofs.Booked.{stands}
use Rattle.ix_recovery.proofs.Members.{all_append}

rest_listed : (item : Item) (rest : List Item) → AreListed (item ∷ rest) → AreListed rest
rest_listed item rest listed = record { once = listed.once.1; left = listed.left.1 }

-- the settings that are gathered are those that stand
pub kept_gathered : (said : List Item) → AreListed said → (all_taken said nothing).kept ≡ kept_in (replay said empty)
kept_gathered [] listed = refl
kept_gathered (items.Settings kept ∷ rest) listed = sym (ap kept_of (first_stands (items.Settings kept) rest listed))
kept_gathered (items.Run run ∷ rest) listed = kept_gathered rest (rest_listed (items.Run run) rest listed)
    ∙ ap kept_of (sym (replay_at rest (after_item (items.Run run) empty) empty settings_name refl))
kept_gathered (items.Moments last tick ∷ rest) listed = kept_gathered rest (rest_listed (items.Moments last tick) rest listed)
    ∙ ap kept_of (sym (replay_at rest (after_item (items.Moments last tick) empty) empty settings_name refl))
kept_gathered (items.Channel name meta carry ∷ rest) listed = kept_gathered rest (rest_listed (items.Channel name meta carry) rest listed)
    ∙ ap kept_of (sym (replay_at rest (after_item (items.Channel name meta carry) empty) empty settings_name refl))
kept_gathered (items.Ended name ∷ rest) listed = kept_gathered rest (rest_listed (items.Ended name) rest listed)
    ∙ ap kept_of (sym (replay_at rest (after_item (items.Ended name) empty) empty settings_name refl))
kept_gathered (items.Bucket index bucket ∷ rest) listed = kept_gathered rest (rest_listed (items.Bucket index bucket) rest listed)
    ∙ ap kept_of (sym (replay_at rest (after_item (items.Bucket index bucket) empty) empty settings_name refl))
kept_gathered (items.Gone index id ∷ rest) listed = kept_gathered rest (rest_listed (items.Gone index id) rest listed)
    ∙ ap kept_of (sym (replay_at rest (after_item (items.Gone index id) empty) empty settings_name refl))
kept_gathered (items.Ledger entry ∷ rest) listed = kept_gathered rest (rest_listed (items.Ledger entry) rest listed)
    ∙ ap kept_of (sym (replay_at rest (after_item (items.Ledger entry) empty) empty settings_name refl))
kept_gathered (items.Counts settled nulled dropped placed ∷ rest) listed =
    kept_gathered rest (rest_listed (items.Counts settled nulled dropped placed) rest listed)
    ∙ ap kept_of (sym (replay_at rest (after_item (items.Counts settled nulled dropped placed) empty) empty settings_name refl))
kept_gathered (items.Spot spot ∷ rest) listed = kept_gathered rest (rest_listed (items.Spot spot) rest listed)
    ∙ ap kept_of (sym (replay_at rest (after_item (items.Spot spot) empty) empty settings_name refl))
kept_gathered (items.NextFile number ∷ rest) listed = kept_gathered rest (rest_listed (items.NextFile number) rest listed)
    ∙ ap kept_of (sym (replay_at rest (after_item (items.NextFile number) empty) empty settings_name refl))
kept_gathered (items.Removals files ∷ rest) listed = kept_gathered rest (rest_listed (items.Removals files) rest listed)
    ∙ ap kept_of (sym (replay_at rest (after_item (items.Removals files) empty) empty settings_name refl))
kept_gathered (items.NextId index id ∷ rest) listed = kept_gathered rest (rest_listed (items.NextId index id) rest listed)
    ∙ ap kept_of (sym (replay_at rest (after_item (items.NextId index id) empty) empty settings_name refl))

-- the channel stands in the book
abbrev StandsAs : NamedItems → Carried → Type 0
StandsAs book c = book (channel_name c.name) ≡ Some (items.Channel c.name c.meta c.carry)

-- so does each channel that is gathered
carried_stand : (said : List Item) (book : NamedItems) → ((x : Item) → IsAmong x said → book (name_of x) ≡ Some x) →
    AllByRecursion (StandsAs book) (all_taken said nothing).channels
carried_stand [] book each = tt
carried_stand (items.Channel name meta carry ∷ rest) book each =
    all_append (StandsAs book) (all_taken rest nothing).channels (record { name = name; meta = meta; carry = carry }
    ∷ []) (carried_stand rest book (λ x at. each x (inr at)))
    (each (items.Channel name meta carry) (inl refl), tt)
carried_stand (items.Settings kept ∷ rest) book each = carried_stand rest book (λ x at. each x (inr at))
carried_stand (items.Run run ∷ rest) book each = carried_stand rest book (λ x at. each x (inr at))
carried_stand (items.Moments last tick ∷ rest) book each = carried_stand rest book (λ x at. each x (inr at))
carried_stand (items.Ended name ∷ rest) book each = carried_stand rest book (λ x at. each x (inr at))
carried_stand (items.Bucket index bucket ∷ rest) book each = carried_stand rest book (λ x at. each x (inr at))
carried_stand (items.Gone index id ∷ rest) book each = carried_stand rest book (λ x at. each x (inr at))
carried_stand (items.Ledger entry ∷ rest) book each = carried_stand rest book (λ x at. each x (inr at))
carried_stand (items.Counts settled nulled dropped placed ∷ rest) book each = carried_stand rest book (λ x at. each x (inr at))
carried_stand (items.Spot spot ∷ rest) book each = carried_stand rest book (λ x at. each x (inr at))
carried_stand (items.NextFile number ∷ rest) book each = carried_stand rest book (λ x at. each x (inr at))
carried_stand (items.Removals files ∷ rest) book each = carried_stand rest book (λ x at. each x (inr at))
carried_stand (items.NextId index id ∷ rest) book each = carried_stand rest book (λ x at. each x (inr at))

-- settings that are some stand as an item
settings_stand : (o : Option Item) (kept : List Kept) → kept_of o ≡ kept → (kept ≡ [] → ⊥) → o ≡ Some (items.Settings kept)
settings_stand None kept is some = absurd (some (sym is))
settings_stand (Some (items.Settings own)) kept is some = ap (λ (k : List Kept). Some (items.Settings k)) is
settings_stand (Some (items.Run run)) kept is some = absurd (some (sym is))
settings_stand (Some (items.Moments last tick)) kept is some = absurd (some (sym is))
settings_stand (Some (items.Channel name meta carry)) kept is some = absurd (some (sym is))
settings_stand (Some (items.Ended name)) kept is some = absurd (some (sym is))
settings_stand (Some (items.Bucket index bucket)) kept is some = absurd (some (sym is))
settings_stand (Some (items.Gone index id)) kept is some = absurd (some (sym is))
settings_stand (Some (items.Ledger entry)) kept is some = absurd (some (sym is))
settings_stand (Some (items.Counts settled nulled dropped placed)) kept is some = absurd (some (sym is))
settings_stand (Some (items.Spot spot)) kept is some = absurd (some (sym is))
settings_stand (Some (items.NextFile number)) kept is some = absurd (some (sym is))
settings_stand (Some (items.Removals files)) kept is some = absurd (some (sym is))
settings_stand (Some (items.NextId index id)) kept is some = absurd (some (sym is))

-- no state comes of the item that stands for the subject
pub bad_stands : (said : List Item) (subject : FaultyItem) → AreListed said → IsNoState subject (all_taken said nothing) →
    IsBadIn GivesNone subject (replay said empty)
bad_stands said subject listed (inl (is, bad)) =
    let book = replay said empty in
    let kept = (all_taken said nothing).kept in
    let own = settings_stand (book settings_name) kept (sym (kept_gathered said listed)) bad.some in
    (items.Settings kept, ap (λ (s : FaultyItem). book (name_in s)) is ∙ own, bad)
bad_stands said subject listed (inr bad) =
    let book = replay said empty in
    let given = (all_taken said nothing).channels in
    let sorted = bad.has_bad.sorted in
    let any = bad.has_bad.bad in
    let x : Carried = any.1 in
    let each = All-permutation (StandsAs book) given sorted bad.has_bad.in_order.same
    (All-from_recursion (StandsAs book) given (carried_stand said book (stands said book (record { stands = refl; listed = listed })))) in
    let there : StandsAs book x = subst (StandsAs book) any.3 (each any.0 x any.2) in (
      items.Channel x.name x.meta x.carry,
      ap (λ (s : FaultyItem). book (name_in s)) any.4.0 ∙ there,
      record { config = bad.config; is_config = bad.is_config; is_kept = bad.kept ∙ kept_gathered said listed; none = any.4.1 },
    )
