-- Each bucket keeps its place, and its events only grow.
use Rattle.std.proofs.Common.{◌≡◌, ℕ, zero, suc, ◌+◌, ℤ, Bool, true, false, List, [], ◌∷◌, ◌++◌, map, refl, sym, ap, ◌∙◌, subst, inl, inr}
use Rattle.std.proofs.Common.{append_assoc}
use Rattle.std.specs.Prelude.{Option, Some, None, ◌⊎◌, if◌then◌else◌, slice_get, unwrap_or, bytes_eq}
use Rattle.std.specs.Option.{option_map}
use Rattle.std.proofs.lemmas.List.{append-nil}
use Rattle.ix_base.specs.declared.events.Event.{Event}
use Rattle.ix_base.specs.declared.events.Routed.{Routed}
use Rattle.ix_base.specs.declared.events.Routed.TheVariants.{To, Null}
use Rattle.ix_items.specs.declared.items.Bucket.{Bucket}
use Rattle.ix_items.specs.declared.items.Entry.{Entry}
use Rattle.ix_items.specs.declared.items.Kept.{Kept}
use Rattle.ix_life.specs.declared.limits.Limits.{Limits}
use Rattle.ix_model.specs.Buckets.{Standing, live, frozen, Slot, Index, entered}
use Rattle.ix_model.specs.Followed.{AreFirst, StaysFrozen, Follows, AreFollowed}
use Rattle.ix_model.specs.Given.{Chooser, home, limits}
use Rattle.ix_model.specs.Keeping.{turned, file_behind, closed_slot, thawing, thawed_by, thawed_slot}
use Rattle.ix_catalog.specs.Buckets.{Turn}
use Rattle.ix_model.specs.Keeping as kept
use Rattle.ix_catalog.specs.Lists.{find, update, change}
use Rattle.ix_model.specs.Placed.{change_live, rolled_slot, filled_slot, roll, placed}
use Rattle.ix_model.specs.State.{State, Catalog, index_name, fresh_index, slots_in}
use Rattle.ix_model.specs.Step.{filled, put_event, deal_to, deal, turn_in, files_taken, all_turned, tick, closed_index, thaw, thawed_index}
use Rattle.ix_model.specs.Step.{step, after_from, state_after}
use Rattle.ix_catalog.specs.Buckets.{named}
use Rattle.ix_model.specs.Step as steps
use Rattle.ix_model.specs.Sums.{AreSoundFrom, IsSound}
use Rattle.ix_model.specs.declared.commands.TimedCommand.{TimedCommand}
use Rattle.ix_model.proofs.Named.{same_bytes, find_change, find_change_or_insert, all_found}
use Rattle.ix_model.proofs.Placing.{GoesInto, GoesBehind, goes}
use Rattle.ix_model.proofs.Stepping.{Keeps, keeps_after, AllSound, keeps_sound}

none_some : {X : Type 0} {x : X} → None ≡ Some x → ⊥
none_some e = cc

some_same : {A : Type 0} (x y : A) → Some x ≡ Some y → x ≡ y
some_same x y e = cc

-- ---- one bucket

front_same : (es : List Event) → AreFirst es es
front_same es = ([], sym (append-nil es))

front_then : (a b c : List Event) → AreFirst a b → AreFirst b c → AreFirst a c
front_then a b c f g = (f.0 ++ g.0, g.1 ∙ ap (λ (l : List Event). l ++ g.0) f.1 ∙ append_assoc a f.0 g.0)

stays_same : (events : List Event) (standing : Standing) → StaysFrozen events standing (record { events = events; standing = standing })
stays_same events (live b) = tt
stays_same events (frozen e other) = (refl, refl)

follows_same : (s : Slot) → Follows s s
follows_same s = record { grows = front_same s.events; stays = stays_same s.events s.standing }

stays_then : (events : List Event) (standing : Standing) (b c : Slot) → StaysFrozen events standing b → StaysFrozen b.events b.standing c →
    StaysFrozen events standing c
stays_then events (live x) b c g h = tt
stays_then events (frozen e other) b c g h = by b.standing g.1 h
  where
    live_none : (x : Bucket) → entered (live x) ≡ Some e → ⊥
    live_none x i = none_some i

    by : (standing : Standing) → entered standing ≡ Some e → StaysFrozen b.events standing c → (c.events ≡ events)
        × (entered c.standing ≡ Some e)
    by (live x) i k = absurd (live_none x i)
    by (frozen e' other') i k = (k.0 ∙ g.0, k.1 ∙ i)

follows_then : (a b c : Slot) → Follows a b → Follows b c → Follows a c
follows_then a b c g h = record {
  grows = front_then a.events b.events c.events g.grows h.grows;
  stays = stays_then a.events a.standing b c g.stays h.stays;
}

-- ---- all buckets

all_same : (slots : List Slot) → AreFollowed slots slots
all_same [] = tt
all_same (s ∷ slots) = (follows_same s, all_same slots)

all_then : (a b c : List Slot) → AreFollowed a b → AreFollowed b c → AreFollowed a c
all_then [] b c g h = tt
all_then (x ∷ a) [] c g h = absurd g
all_then (x ∷ a) (y ∷ b) [] g h = absurd h
all_then (x ∷ a) (y ∷ b) (z ∷ c) g h = (follows_then x y z g.0 h.0, all_then a b c g.1 h.1)

all_update : (k : ℕ) (f : Slot → Slot) (slots : List Slot) → ((s : Slot) → slice_get slots k ≡ Some s → Follows s (f s)) →
    AreFollowed slots (update k f slots)
all_update k f [] h = tt
all_update zero f (s ∷ slots) h = (h s refl, all_same slots)
all_update (suc k) f (s ∷ slots) h = (follows_same s, all_update k f slots h)

all_push : (slots later : List Slot) (s : Slot) → AreFollowed slots later → AreFollowed slots (later ++ s ∷ [])
all_push [] later s h = tt
all_push (x ∷ slots) [] s h = absurd h
all_push (x ∷ slots) (y ∷ later) s h = (h.0, all_push slots later s h.1)

-- a change of live buckets
live_follows : (f : Bucket → Bucket) (s : Slot) → Follows s (record { events = s.events; standing = change_live f s.standing })
live_follows f s = record { grows = front_same s.events; stays = by s.standing }
  where
    by : (standing : Standing) → StaysFrozen s.events standing (record { events = s.events; standing = change_live f standing })
    by (live b) = tt
    by (frozen e other) = (refl, refl)

all_rolled : (o : Option ℕ) (slots : List Slot) → AreFollowed slots (roll o slots)
all_rolled None slots = all_same slots
all_rolled (Some k) slots = all_update k rolled_slot slots (λ s e. live_follows _ s)

fills : (limits : Limits) (event : Event) (used : ℕ) (moment : ℤ) (s : Slot) (b : Bucket) → s.standing ≡ live b →
    Follows s (filled_slot limits event used moment s)
fills limits event used moment s b e = record {
  grows = (event ∷ [], refl);
  stays = subst (λ (x : Standing). StaysFrozen s.events x (filled_slot limits event used moment s)) (sym e) tt;
}

placed_by : (limits : Limits) (file : ℕ) (event : Event) (used : ℕ) (moment : ℤ) (slots : List Slot) →
    GoesInto limits file event used moment slots ⊎ GoesBehind limits file event used moment slots →
    AreFollowed slots (placed limits file event used moment slots)
placed_by limits file event used moment slots (inl g) =
    subst (AreFollowed slots) (sym g.comes_to)
    (all_update g.place (filled_slot limits event used moment) slots (λ s e. fills limits event used moment s g.bucket
    (ap (λ (x : Slot). x.standing) (some_same s g.slot (sym e ∙ g.found)) ∙ g.stands)))
placed_by limits file event used moment slots (inr g) =
    subst (AreFollowed slots) (sym g.comes_to) (all_push slots (roll g.rolls slots) _ (all_rolled g.rolls slots))

turned_follows : (t : Turn) (file : ℕ) (s : Slot) → Follows s (record { events = s.events; standing = turned t file s.standing })
turned_follows t file s = record { grows = front_same s.events; stays = by s.standing }
  where
    by : (standing : Standing) → StaysFrozen s.events standing (record { events = s.events; standing = turned t file standing })
    by (live b) = tt
    by (frozen e other) = (refl, refl)

all_turns : (t : Turn) (file : ℕ) (slots : List Slot) → AreFollowed slots (kept.all_turned t file slots)
all_turns t file [] = tt
all_turns t file (s ∷ slots) = (turned_follows t file s, all_turns t (file_behind t file s.standing) slots)

all_closed : (slots : List Slot) → AreFollowed slots (map closed_slot slots)
all_closed [] = tt
all_closed (s ∷ slots) = (live_follows kept.closed s, all_closed slots)

thawed_entry : (e : Entry) (archive : Option ℕ) (file : ℕ) (other : Option Bucket) → entered (thawed_by e archive file other) ≡ Some e
thawed_entry e None file other = refl
thawed_entry e (Some archive) file (Some b) = refl
thawed_entry e (Some archive) file None = refl

thaw_follows : (file : ℕ) (s : Slot) → Follows s (thawed_slot file s)
thaw_follows file s = record { grows = front_same s.events; stays = by s.standing }
  where
    by : (standing : Standing) → StaysFrozen s.events standing (record { events = s.events; standing = thawing file standing })
    by (live b) = tt
    by (frozen e other) = (refl, thawed_entry e e.archive file other)

-- ---- the index of a name

put_follows : (force : List Kept) (moment : ℤ) (s : Catalog) (event : Event) (index name : List ℕ) → AllSound s → (b : Bool) →
    bytes_eq index name ≡ b →
    AreFollowed (slots_in s.indexes name) (slots_in (put_event force moment s event index).indexes name)
put_follows force moment s event index name sound b e =
    subst (λ (o : Option Index). AreFollowed (slots_in s.indexes name) (unwrap_or o (fresh_index name)).slots)
    (sym (find_change_or_insert index_name index name (filled force moment s.next_file (s.counts.placed + 1) event) (fresh_index index)
    (λ i. refl) refl s.indexes
    ∙ ap (λ (t : Bool). if t then Some (filled force moment s.next_file (s.counts.placed + 1) event
    (unwrap_or (find index_name index s.indexes) (fresh_index index))) else find index_name name s.indexes) e))
    (by b e)
  where
    old : Index
    old = unwrap_or (find index_name index s.indexes) (fresh_index index)

    sound_old : (o : Option Index) → find index_name index s.indexes ≡ o →
        AreSoundFrom (unwrap_or o (fresh_index index)).name 0 (unwrap_or o (fresh_index index)).slots
    sound_old None h = tt
    sound_old (Some i) h = all_found IsSound index_name index i s.indexes sound h

    by : (c : Bool) → bytes_eq index name ≡ c →
        AreFollowed (slots_in s.indexes name)
        (unwrap_or (if c then Some (filled force moment s.next_file (s.counts.placed + 1) event old) else find index_name name s.indexes)
        (fresh_index name)).slots
    by true t =
        subst (λ (n : List ℕ). AreFollowed (slots_in s.indexes n)
        (placed (limits force old.name) s.next_file event (s.counts.placed + 1) moment old.slots)) (same_bytes index name t)
        (placed_by (limits force old.name) s.next_file event (s.counts.placed + 1) moment old.slots
        (goes old.name (limits force old.name) s.next_file event (s.counts.placed + 1) moment old.slots
        (sound_old (find index_name index s.indexes) refl)))
    by false t = all_same (slots_in s.indexes name)

to_follows : (force : List Kept) (moment : ℤ) (s : Catalog) (event : Event) (o : Option (List ℕ)) (name : List ℕ) → AllSound s →
    AreFollowed (slots_in s.indexes name) (slots_in (deal_to force moment s event o).indexes name)
to_follows force moment s event None name sound = all_same (slots_in s.indexes name)
to_follows force moment s event (Some index) name sound =
    put_follows force moment s (named index event) index name sound (bytes_eq index name) refl

deal_follows : (force : List Kept) (moment : ℤ) (s : Catalog) (o : Routed) (name : List ℕ) → AllSound s →
    AreFollowed (slots_in s.indexes name) (slots_in (deal force moment s o).indexes name)
deal_follows force moment s (To event) name sound = to_follows force moment s event (home force event.index) name sound
deal_follows force moment s Null name sound = all_same (slots_in s.indexes name)

turns_follow : (force : List Kept) (moment : ℤ) (file : ℕ) (is : List Index) (name : List ℕ) →
    AreFollowed (slots_in is name) (slots_in (all_turned force moment file is) name)
turns_follow force moment file [] name = tt
turns_follow force moment file (i ∷ is) name =
    by (bytes_eq i.name name) (turns_follow force moment (file + files_taken force moment i) is name)
  where
    rest : List Index
    rest = all_turned force moment (file + files_taken force moment i) is

    by : (b : Bool) → AreFollowed (slots_in is name) (slots_in rest name) →
        AreFollowed (unwrap_or (if b then Some i else find index_name name is) (fresh_index name)).slots
        (unwrap_or (if b then Some (steps.turned_index force moment file i) else find index_name name rest) (fresh_index name)).slots
    by true h = all_turns (turn_in force moment i) file i.slots
    by false h = h

changed_follows : (f : Index → Index) → ((i : Index) → AreFollowed i.slots (f i).slots) → (b : Bool) (o : Option Index) (name : List ℕ) →
    AreFollowed (unwrap_or o (fresh_index name)).slots (unwrap_or (if b then option_map f o else o) (fresh_index name)).slots
changed_follows f k false o name = all_same _
changed_follows f k true None name = tt
changed_follows f k true (Some i) name = k i

change_follows : (index : List ℕ) (f : Index → Index) → ((i : Index) → (f i).name ≡ i.name) →
    ((i : Index) → AreFollowed i.slots (f i).slots) →
    (is : List Index) (name : List ℕ) → AreFollowed (slots_in is name) (slots_in (change index_name index f is) name)
change_follows index f n k is name =
    subst (λ (o : Option Index). AreFollowed (slots_in is name) (unwrap_or o (fresh_index name)).slots)
    (sym (find_change index_name index name f n is))
    (changed_follows f k (bytes_eq index name) (find index_name name is) name)

-- ---- histories

record IsBehind (base : List Slot) (name : List ℕ) (s : Catalog) : Type 0 where
  sound : AllSound s
  follow : AreFollowed base (slots_in s.indexes name)

keeps_following : (base : List Slot) (name : List ℕ) → Keeps (IsBehind base name)
keeps_following base name = record {
  deals = λ force moment s o h. record {
    sound = keeps_sound.deals force moment s o h.sound;
    follow = all_then base _ _ h.follow (deal_follows force moment s o name h.sound);
  };
  ticks = λ force moment s h. record {
    sound = keeps_sound.ticks force moment s h.sound;
    follow = all_then base _ _ h.follow (turns_follow force moment s.next_file s.indexes name);
  };
  rolls = λ index s h. record {
    sound = keeps_sound.rolls index s h.sound;
    follow = all_then base _ _ h.follow (change_follows index closed_index (λ i. refl) (λ i. all_closed i.slots) s.indexes name);
  };
  thaws = λ index id s h. record {
    sound = keeps_sound.thaws index id s h.sound;
    follow = all_then base _ _ h.follow (change_follows index (thawed_index id s.next_file) (λ i. refl)
        (λ i. all_update id (thawed_slot s.next_file) i.slots (λ t e. thaw_follows s.next_file t)) s.indexes name);
  };
}

pub followed_after : (choose : Chooser) (m : State) (history : List TimedCommand) (name : List ℕ) → AllSound m.catalog →
    AreFollowed (slots_in m.catalog.indexes name) (slots_in (after_from choose m history).catalog.indexes name)
followed_after choose m history name sound =
    (keeps_after (IsBehind (slots_in m.catalog.indexes name) name) (keeps_following (slots_in m.catalog.indexes name) name) choose m history
    (record { sound = sound; follow = all_same (slots_in m.catalog.indexes name) })).follow

pub after_more : (choose : Chooser) (m : State) (before later : List TimedCommand) →
    after_from choose m (before ++ later) ≡ after_from choose (after_from choose m before) later
after_more choose m [] later = refl
after_more choose m (o ∷ before) later = after_more choose (step choose m o) before later
