-- What a command says of spots, of settings and of its moment is all that it changes of them in the
-- book.
use Rattle.std.proofs.Common.{◌≡◌, ℕ, zero, suc, Bool, true, false, List, [], ◌∷◌, ◌++◌, refl, sym, ap, ◌∙◌}
use Rattle.std.specs.Prelude.{Option, Some, None, if◌then◌else◌, is_some, bytes_eq}
use Rattle.std.specs.List.{AllByRecursion}
use Rattle.std.specs.Option.{option_map}
use Rattle.std.proofs.lemmas.Bool.{eqb-true}
use Rattle.ix_base.specs.declared.events.Spot.{Spot}
use Rattle.ix_manifest.specs.Book.{Name, NamedItems, named, name_of, is_same, replay}
use Rattle.ix_manifest.proofs.InPlace.{none_under}
use Rattle.ix_items.specs.declared.items.Item.{Item}
use Rattle.ix_items.specs.declared.items.Item.TheVariants as items
use Rattle.ix_items.specs.declared.items.Kept.{Kept}
use Rattle.ix_model.specs.Given.{Chooser}
use Rattle.ix_model.specs.State.{State, spot_path}
use Rattle.ix_model.specs.Step.{state_after, with_spot, spots, force}
use Rattle.ix_model.specs.declared.commands.Command.{Command}
use Rattle.ix_model.specs.declared.commands.Command.TheVariants.{Begin, Block, End, Tick, Roll, Thaw, Configure, Direct}
use Rattle.ix_model.specs.declared.commands.TimedCommand.{TimedCommand}
use Rattle.ix_model.proofs.Named.{by_test, same_bytes, bytes_same, find_put}
use Rattle.ix_catalog.specs.Lists.{find, change, insert, stands_before}
use Rattle.ix_model.specs.Books.{once}
use Rattle.ix_model.specs.Said.{is_spot_kind, spot_items, SpotsAreSaid, is_settings_kind, settings_items, SettingsAreSaid, moment_items}
use Rattle.ix_model.specs.Said.{MomentsAreSaid}
use Rattle.ix_model.specs.Snap.{snapshot_of}
use Rattle.ix_model.proofs.Saying.{at_kind, other_zero, none_numbered, same_text}
use Rattle.ix_model.proofs.Stood.{after_push, left_more}

none_some : {X : Type 0} {x : X} → None ≡ Some x → ⊥
none_some e = cc

true_false : true ≡ false → ⊥
true_false e = cc

-- ---- a spot in place of the one of its path

find_replaced : (spot old : Spot) (other : List ℕ) (xs : List Spot) → find spot_path spot.path xs ≡ Some old →
    find spot_path other (change spot_path spot.path (λ (x : Spot). spot) xs) ≡ (if bytes_eq spot.path other then Some spot else find
    spot_path other xs)
find_replaced spot old other [] e = absurd (none_some e)
find_replaced spot old other (x ∷ xs) e =
    by_test (bytes_eq x.path spot.path)
    (λ t. (let is : x.path ≡ spot.path = same_bytes x.path spot.path t in
    by_test (bytes_eq spot.path other)
    (λ u. rw (t, u) refl)
    (λ u. (let v : bytes_eq x.path other ≡ false = ap (λ (n : List ℕ). bytes_eq n other) is ∙ u in rw (t, u, v) refl))))
    (λ t. by_test (bytes_eq x.path other)
    (λ u. (let v : bytes_eq spot.path other ≡ false = apart t u in rw (t, u, v) refl))
    (λ u. rw (t, u) (find_replaced spot old other xs (rw t at e))))
  where
    apart : bytes_eq x.path spot.path ≡ false → bytes_eq x.path other ≡ true → bytes_eq spot.path other ≡ false
    apart t u = by_test (bytes_eq spot.path other)
        (λ v. absurd (true_false (sym (bytes_same x.path spot.path (same_bytes x.path other u ∙ sym (same_bytes spot.path other v))) ∙ t)))
        (λ v. v)

pub find_spot : (spot : Spot) (other : List ℕ) (xs : List Spot) →
    find spot_path other (with_spot xs (Some spot)) ≡ (if bytes_eq spot.path other then Some spot else find spot_path other xs)
find_spot spot other xs = by (find spot_path spot.path xs) refl
  where
    by : (o : Option Spot) → find spot_path spot.path xs ≡ o →
        find spot_path other (if is_some o then change spot_path spot.path (λ (x : Spot). spot) xs else insert spot_path spot xs)
        ≡ (if bytes_eq spot.path other then Some spot else find spot_path other xs)
    by None e = find_put spot_path (stands_before spot_path) other spot xs e
    by (Some old) e = find_replaced spot old other xs e

-- ---- each item

pub each_spot : (P : Item → Type 0) → ((spot : Spot) → P (items.Spot spot)) → (c : Command) → AllByRecursion P (spot_items c)
each_spot P said (Begin channel meta) = tt
each_spot P said (Block channel bytes None) = tt
each_spot P said (Block channel bytes (Some spot)) = (said spot, tt)
each_spot P said (End channel) = tt
each_spot P said Tick = tt
each_spot P said (Roll index) = tt
each_spot P said (Thaw index id) = tt
each_spot P said (Configure config) = tt
each_spot P said (Direct events) = tt

pub each_setting : (P : Item → Type 0) → ((kept : List Kept) → P (items.Settings kept)) → (c : Command) →
    AllByRecursion P (settings_items c)
each_setting P said (Begin channel meta) = tt
each_setting P said (Block channel bytes spot) = tt
each_setting P said (End channel) = tt
each_setting P said Tick = tt
each_setting P said (Roll index) = tt
each_setting P said (Thaw index id) = tt
each_setting P said (Configure config) = (said config.kept, tt)
each_setting P said (Direct events) = tt

-- ---- what stood

left_spots : (choose : Chooser) (history : List TimedCommand) (text : List ℕ) →
    (snapshot_of choose history).book (named 10 text 0) ≡ option_map items.Spot (find spot_path text (state_after choose history).spots)
left_spots choose [] text = refl
left_spots choose (o ∷ history) text = refl

no_spots : (choose : Chooser) (history : List TimedCommand) (text : List ℕ) (number : ℕ) →
    (snapshot_of choose history).book (named 10 text (suc number)) ≡ None
no_spots choose [] text number = refl
no_spots choose (o ∷ history) text number =
    ap (λ (t : Bool). if t then option_map items.Spot (find spot_path text (state_after choose (o ∷ history)).spots) else None)
    (other_zero number)

left_settings : (choose : Chooser) (history : List TimedCommand) (text : List ℕ) (number : ℕ) →
    (snapshot_of choose history).book (named 1 text number) ≡ once (items.Settings (state_after choose history).force) (named 1 text number)
left_settings choose [] text number = refl
left_settings choose (o ∷ history) text number = refl

no_moments : (choose : Chooser) (history : List TimedCommand) (text : List ℕ) (number : ℕ) →
    is_same (named 3 [] 0) (named 3 text number) ≡ false → (snapshot_of choose history).book (named 3 text number) ≡ None
no_moments choose [] text number e = refl
no_moments choose (o ∷ history) text number e =
    ap (λ (t : Bool). if t then Some (items.Moments (state_after choose (o ∷ history)).last (state_after choose (o ∷ history)).tick) else
    None) e

module _ (choose : Chooser) (history : List TimedCommand) (order : TimedCommand) where
  abbrev m : State
  m = state_after choose history

  abbrev later : State
  later = state_after choose (history ++ order ∷ [])

  abbrev from : NamedItems
  from = (snapshot_of choose history).book

  abbrev to : NamedItems
  to = (snapshot_of choose (history ++ order ∷ [])).book

  -- ---- spots

  spots_stay : (text : List ℕ) → later.spots ≡ m.spots → option_map items.Spot (find spot_path text later.spots) ≡ from (named 10 text 0)
  spots_stay text e = ap (λ (xs : List Spot). option_map items.Spot (find spot_path text xs)) e ∙ sym (left_spots choose history text)

  spots_by : (text : List ℕ) (c : Command) → later.spots ≡ spots m c →
      option_map items.Spot (find spot_path text later.spots) ≡ replay (spot_items c) from (named 10 text 0)
  spots_by text (Begin channel meta) e = spots_stay text e
  spots_by text (Block channel bytes None) e = spots_stay text e
  spots_by text (Block channel bytes (Some spot)) e =
      ap (λ (xs : List Spot). option_map items.Spot (find spot_path text xs)) e
      ∙ ap (option_map items.Spot) (find_spot spot text m.spots)
      ∙ by_test (bytes_eq spot.path text)
      (λ t. ap (λ (b : Bool). option_map items.Spot (if b then Some spot else find spot_path text m.spots)) t
      ∙ sym (ap (λ (b : Bool). if b then Some (items.Spot spot) else from (named 10 text 0)) (same_text 10 spot.path text ∙ t)))
      (λ t. ap (λ (b : Bool). option_map items.Spot (if b then Some spot else find spot_path text m.spots)) t
      ∙ sym (left_spots choose history text)
      ∙ sym (ap (λ (b : Bool). if b then Some (items.Spot spot) else from (named 10 text 0)) (same_text 10 spot.path text ∙ t)))
  spots_by text (End channel) e = spots_stay text e
  spots_by text Tick e = spots_stay text e
  spots_by text (Roll index) e = spots_stay text e
  spots_by text (Thaw index id) e = spots_stay text e
  spots_by text (Configure config) e = spots_stay text e
  spots_by text (Direct events) e = spots_stay text e

  at_spot : (text : List ℕ) (number : ℕ) → to (named 10 text number) ≡ replay (spot_items order.command) from (named 10 text number)
  at_spot text zero =
      left_spots choose (history ++ order ∷ []) text ∙ spots_by text order.command
      (ap (λ (x : State). x.spots) (after_push choose history order))
  at_spot text (suc number) =
      no_spots choose (history ++ order ∷ []) text number ∙ sym (no_spots choose history text number)
      ∙ sym (none_under (spot_items order.command) (named 10 text (suc number)) from
      (none_numbered 10 text number (spot_items order.command)
      (each_spot (λ (x : Item). (name_of x).number ≡ 0) (λ spot. refl) order.command)))

  -- ---- settings

  force_stays : (name : Name) → from name ≡ once (items.Settings m.force) name → later.force ≡ m.force →
      once (items.Settings later.force) name ≡ from name
  force_stays name stood e = ap (λ (k : List Kept). once (items.Settings k) name) e ∙ sym stood

  settings_by : (name : Name) → from name ≡ once (items.Settings m.force) name → (c : Command) → later.force ≡ force m.force c →
      once (items.Settings later.force) name ≡ replay (settings_items c) from name
  settings_by name stood (Begin channel meta) e = force_stays name stood e
  settings_by name stood (Block channel bytes spot) e = force_stays name stood e
  settings_by name stood (End channel) e = force_stays name stood e
  settings_by name stood Tick e = force_stays name stood e
  settings_by name stood (Roll index) e = force_stays name stood e
  settings_by name stood (Thaw index id) e = force_stays name stood e
  settings_by name stood (Configure config) e =
      ap (λ (k : List Kept). once (items.Settings k) name) e
      ∙ by_test (is_same (named 1 [] 0) name)
      (λ t. ap (λ (b : Bool). if b then Some (items.Settings config.kept) else None) t
      ∙ sym (ap (λ (b : Bool). if b then Some (items.Settings config.kept) else from name) t))
      (λ t. ap (λ (b : Bool). if b then Some (items.Settings config.kept) else None) t
      ∙ sym (stood ∙ ap (λ (b : Bool). if b then Some (items.Settings m.force) else None) t)
      ∙ sym (ap (λ (b : Bool). if b then Some (items.Settings config.kept) else from name) t))
  settings_by name stood (Direct events) e = force_stays name stood e

  at_settings : (text : List ℕ) (number : ℕ) → to (named 1 text number) ≡ replay (settings_items order.command) from (named 1 text number)
  at_settings text number =
      left_settings choose (history ++ order ∷ []) text number
      ∙ settings_by (named 1 text number) (left_settings choose history text number) order.command
      (ap (λ (x : State). x.force) (after_push choose history order))

  -- ---- moments

  at_moment : (text : List ℕ) (number : ℕ) → to (named 3 text number) ≡ replay (moment_items later) from (named 3 text number)
  at_moment text number = by_test (is_same (named 3 [] 0) (named 3 text number))
      (λ t. ap (λ s. s.book (named 3 text number)) (left_more choose history order)
      ∙ ap (λ (b : Bool). if b then Some (items.Moments later.last later.tick) else None) t
      ∙ sym (ap (λ (b : Bool). if b then Some (items.Moments later.last later.tick) else from (named 3 text number)) t))
      (λ t. no_moments choose (history ++ order ∷ []) text number t ∙ sym (no_moments choose history text number t)
      ∙ sym (ap (λ (b : Bool). if b then Some (items.Moments later.last later.tick) else from (named 3 text number)) t))

pub spots_are_said : SpotsAreSaid
spots_are_said choose history order = record {
  own = each_spot (λ (x : Item). is_spot_kind (name_of x).kind ≡ true) (λ spot. refl) order.command;
  lead = λ name is. at_kind (λ (n : Name). to choose history order n ≡ replay (spot_items order.command) (from choose history order) n) 10
      (at_spot choose history order) name (eqb-true 10 name.kind is);
}

pub settings_are_said : SettingsAreSaid
settings_are_said choose history order = record {
  own = each_setting (λ (x : Item). is_settings_kind (name_of x).kind ≡ true) (λ kept. refl) order.command;
  lead = λ name is. at_kind (λ (n : Name). to choose history order n ≡ replay (settings_items order.command) (from choose history order) n)
      1
      (at_settings choose history order) name (eqb-true 1 name.kind is);
}

pub moments_are_said : MomentsAreSaid
moments_are_said choose history order = record {
  own = (refl, tt);
  lead = λ name is. at_kind (λ (n : Name). to choose history order n ≡ replay (moment_items (later choose history order))
      (from choose history order) n) 3
      (at_moment choose history order) name (eqb-true 3 name.kind is);
}
