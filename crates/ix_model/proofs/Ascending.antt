-- Channels, indexes and spots stand by their names.
use Rattle.std.proofs.Common.{◌≡◌, ℕ, ◌+◌, ℤ, true, false, List, [], ◌∷◌, ◌++◌, refl, sym, ap, ◌∙◌, subst, Ordering}
use Rattle.std.specs.Prelude.{Option, Some, None, is_some, if◌then◌else◌, bytes_eq}
use Rattle.std.specs.List.{AllByRecursion, flat_map}
use Rattle.std.specs.declared.cmp.Ordering.TheVariants.{Less, Equal, Greater}
use Rattle.std.specs.Ordering.{nat_cmp, is_lt, is_eq, ordering_reverse}
use Rattle.std.specs.Cmp.Lexicographic.{slice_cmp}
use Rattle.std.proofs.lemmas.Cmp.{nat_list_cmp_total}
use Rattle.std.proofs.lemmas.Map.Text.{is_eq-slice_cmp}
use Rattle.ix_base.specs.declared.events.ChannelMeta.{ChannelMeta}
use Rattle.ix_base.specs.declared.events.Event.{Event}
use Rattle.ix_base.specs.declared.events.Routed.{Routed}
use Rattle.ix_base.specs.declared.events.Routed.TheVariants.{To, Null}
use Rattle.ix_base.specs.declared.events.Spot.{Spot}
use Rattle.ix_items.specs.declared.items.Kept.{Kept}
use Rattle.ix_life.specs.Order as order
use Rattle.ix_model.specs.Buckets.{Index}
use Rattle.ix_model.specs.Given.{Chooser, home}
use Rattle.ix_model.specs.Laws.{AreInOrder, AreSaid}
use Rattle.ix_catalog.specs.Lists.{find, without, change, stands_before, insert, change_or_insert, AreAscending}
use Rattle.ix_model.specs.State.{State, Catalog, ChannelHistory, index_name, life_name, spot_path, fresh_index, life_in, empty}
use Rattle.ix_model.specs.Step.{filled, deal_to, deal, end_adds, files_taken, all_turned, closed_index, thawed_index, begun, longer}
use Rattle.ix_model.specs.Step.{channels, with_spot, spots, effective, step, after_from, state_after}
use Rattle.ix_catalog.specs.Buckets.{named}
use Rattle.ix_model.specs.declared.commands.Command.{Command}
use Rattle.ix_model.specs.declared.commands.Command.TheVariants.{Begin, Block, End, Tick, Roll, Thaw, Configure, Direct}
use Rattle.ix_model.specs.declared.commands.TimedCommand.{TimedCommand}
use Rattle.ix_model.proofs.Named.{by_test, same_bytes, bytes_same, all_change, all_put}
use Rattle.ix_model.proofs.Stepping.{Keeps, keeps_after}

true-false : true ≡ false → ⊥
true-false e = cc

-- ---- the order of names

abbrev cmp : List ℕ → List ℕ → Ordering
cmp a b = slice_cmp nat_cmp a b

less_is : (o : Ordering) → is_lt o ≡ true → o ≡ Less
less_is Less e = refl
less_is Equal e = absurd (true-false (sym e))
less_is Greater e = absurd (true-false (sym e))

-- of two names of which neither is the other and the second does not stand before the first, the
-- first does
other_way : (a b : List ℕ) → bytes_eq a b ≡ false → is_lt (cmp b a) ≡ false → (o : Ordering) → cmp a b ≡ o → cmp a b ≡ Less
other_way a b d n Less e = e
other_way a b d n Equal e = absurd (true-false (sym (ap is_eq e) ∙ is_eq-slice_cmp a b ∙ d))
other_way a b d n Greater e = absurd (true-false (sym (ap is_lt (nat_list_cmp_total.antisymm b a ∙ ap ordering_reverse e)) ∙ n))

pub less_other : (a b : List ℕ) → cmp a b ≡ Less → bytes_eq a b ≡ false
less_other a b e = sym (is_eq-slice_cmp a b) ∙ ap is_eq e

abbrev Before : {X : Type 0} → (X → List ℕ) → X → X → Type 0
Before name_of x y = cmp (name_of x) (name_of y) ≡ Less

before_all : {X : Type 0} (name_of : X → List ℕ) (x y : X) (xs : List X) → Before name_of x y → AllByRecursion (Before name_of y) xs →
    AllByRecursion (Before name_of x) xs
before_all name_of x y [] l h = tt
before_all name_of x y (z ∷ xs) l h = (nat_list_cmp_total.trans (name_of x) (name_of y) (name_of z) l h.0, before_all name_of x y xs l h.1)

-- ---- what keeps it

none_some : {X : Type 0} {x : X} → Some x ≡ None → ⊥
none_some e = cc

ascending_put : {X : Type 0} (name_of : X → List ℕ) (x : X) (xs : List X) → AreAscending name_of xs → find name_of (name_of x) xs ≡ None →
    AreAscending name_of (order.put (stands_before name_of) x xs)
ascending_put name_of x [] h e = (tt, tt)
ascending_put name_of x (y ∷ ys) h e =
    by_test (bytes_eq (name_of y) (name_of x))
    (λ t. absurd (none_some (rw t at e)))
    (λ t. by_test (is_lt (cmp (name_of y) (name_of x)))
    (λ b. rw b (
      all_put (Before name_of y) (stands_before name_of) x ys (less_is (cmp (name_of y) (name_of x)) b) h.0,
      ascending_put name_of x ys h.1 (rw t at e),
    ))
    (λ b. rw b (let l : Before name_of x y = other_way (name_of x) (name_of y) (other t) b (cmp (name_of x) (name_of y)) refl in
    ((l, before_all name_of x y ys l h.0), h))))
  where
    other : bytes_eq (name_of y) (name_of x) ≡ false → bytes_eq (name_of x) (name_of y) ≡ false
    other t = by_test (bytes_eq (name_of x) (name_of y))
        (λ u. absurd (true-false (sym (bytes_same (name_of y) (name_of x) (sym (same u))) ∙ t)))
        (λ u. u)
      where
        same : bytes_eq (name_of x) (name_of y) ≡ true → name_of x ≡ name_of y
        same u = same_bytes (name_of x) (name_of y) u

pub ascending_change : {X : Type 0} (name_of : X → List ℕ) (name : List ℕ) (f : X → X) → ((x : X) → name_of (f x) ≡ name_of x) →
    (xs : List X) → AreAscending name_of xs →
    AreAscending name_of (change name_of name f xs)
ascending_change name_of name f k [] h = tt
ascending_change name_of name f k (x ∷ xs) h =
    by_test (bytes_eq (name_of x) name)
    (λ t. rw t (subst (λ (n : List ℕ). AllByRecursion (λ y. cmp n (name_of y) ≡ Less) xs) (sym (k x)) h.0, h.1))
    (λ t. rw t (
      all_change (Before name_of x) name_of name f xs h.0 (λ y p. ap (cmp (name_of x)) (k y) ∙ p),
      ascending_change name_of name f k xs h.1,
    ))

ascending_by : {X : Type 0} (name_of : X → List ℕ) (name : List ℕ) (f : X → X) (fresh : X) → ((x : X) → name_of (f x) ≡ name_of x) →
    name_of fresh ≡ name → (xs : List X) → AreAscending name_of xs →
    (o : Option X) → find name_of name xs ≡ o → AreAscending name_of
    (if is_some o then change name_of name f xs else insert name_of (f fresh) xs)
ascending_by {X = X} name_of name f fresh k is xs h None e =
    ascending_put name_of (f fresh) xs h (ap (λ (n : List ℕ). find name_of n xs) (k fresh ∙ is) ∙ e)
ascending_by name_of name f fresh k is xs h (Some y) e = ascending_change name_of name f k xs h

pub ascending_change_or_insert : {X : Type 0} (name_of : X → List ℕ) (name : List ℕ) (f : X → X) (fresh : X) →
    ((x : X) → name_of (f x) ≡ name_of x) → name_of fresh ≡ name → (xs : List X) →
    AreAscending name_of xs → AreAscending name_of (change_or_insert name_of name f fresh xs)
ascending_change_or_insert name_of name f fresh k is xs h = ascending_by name_of name f fresh k is xs h (find name_of name xs) refl

all_without : {X : Type 0} (P : X → Type 0) (name_of : X → List ℕ) (name : List ℕ) (xs : List X) → AllByRecursion P xs →
    AllByRecursion P (without name_of name xs)
all_without P name_of name [] h = tt
all_without P name_of name (x ∷ xs) h = by_test (bytes_eq (name_of x) name) (λ t. rw t h.1)
    (λ t. rw t (h.0, all_without P name_of name xs h.1))

ascending_without : {X : Type 0} (name_of : X → List ℕ) (name : List ℕ) (xs : List X) → AreAscending name_of xs →
    AreAscending name_of (without name_of name xs)
ascending_without name_of name [] h = tt
ascending_without name_of name (x ∷ xs) h =
    by_test (bytes_eq (name_of x) name) (λ t. rw t h.1)
    (λ t. rw t (all_without (Before name_of x) name_of name xs h.0, ascending_without name_of name xs h.1))

-- ---- states

channels_with_is : (choose : Chooser) (m : State) (channel : List ℕ) (meta : ChannelMeta) → AreAscending life_name m.channels →
    (o : Option ChannelHistory) → life_in m channel ≡ o →
    AreAscending life_name (if is_some o then m.channels else insert life_name (begun choose m.force channel meta) m.channels)
channels_with_is choose m channel meta h (Some life) e = h
channels_with_is choose m channel meta h None e = ascending_put life_name (begun choose m.force channel meta) m.channels h e

channels_ascend : (choose : Chooser) (m : State) (command : Command) (moment : ℤ) → AreAscending life_name m.channels →
    AreAscending life_name (channels choose m command moment)
channels_ascend choose m (Begin channel meta) moment h = channels_with_is choose m channel meta h (life_in m channel) refl
channels_ascend choose m (Block channel bytes spot) moment h =
    ascending_change life_name channel (longer bytes moment) (λ l. refl) m.channels h
channels_ascend choose m (End channel) moment h = ascending_without life_name channel m.channels h
channels_ascend choose m Tick moment h = h
channels_ascend choose m (Roll index) moment h = h
channels_ascend choose m (Thaw index id) moment h = h
channels_ascend choose m (Configure config) moment h = tt
channels_ascend choose m (Direct events) moment h = h

-- a spot in place of the one of its path
spot_put : (spot : Spot) (list : List Spot) → AreAscending spot_path list → AreAscending spot_path (with_spot list (Some spot))
spot_put spot list h = by (find spot_path spot.path list) refl
  where
    changed : (xs : List Spot) → AreAscending spot_path xs → AreAscending spot_path (change spot_path spot.path (λ (old : Spot). spot) xs)
    changed [] k = tt
    changed (x ∷ xs) k =
        by_test (bytes_eq x.path spot.path)
        (λ t. rw t (subst (λ (n : List ℕ). AllByRecursion (λ (y : Spot). cmp n y.path ≡ Less) xs) (same_bytes x.path spot.path t) k.0, k.1))
        (λ t. rw t (all_spots x xs k.0, changed xs k.1))
      where
        all_spots : (x : Spot) (ys : List Spot) → AllByRecursion (Before spot_path x) ys →
            AllByRecursion (Before spot_path x) (change spot_path spot.path (λ (old : Spot). spot) ys)
        all_spots x [] a = tt
        all_spots x (y ∷ ys) a =
            by_test (bytes_eq y.path spot.path)
            (λ t. rw t (subst (λ (n : List ℕ). cmp x.path n ≡ Less) (same_bytes y.path spot.path t) a.0, a.1))
            (λ t. rw t (a.0, all_spots x ys a.1))

    by : (o : Option Spot) → find spot_path spot.path list ≡ o →
        AreAscending spot_path (if is_some o then change spot_path spot.path (λ (old : Spot). spot) list else insert spot_path spot list)
    by None e = ascending_put spot_path spot list h e
    by (Some old) e = changed list h

spots_ascend : (m : State) (command : Command) → AreAscending spot_path m.spots → AreAscending spot_path (spots m command)
spots_ascend m (Begin channel meta) h = h
spots_ascend m (Block channel bytes None) h = h
spots_ascend m (Block channel bytes (Some spot)) h = spot_put spot m.spots h
spots_ascend m (End channel) h = h
spots_ascend m Tick h = h
spots_ascend m (Roll index) h = h
spots_ascend m (Thaw index id) h = h
spots_ascend m (Configure config) h = h
spots_ascend m (Direct events) h = h

all_turned_behind : (force : List Kept) (moment : ℤ) (file : ℕ) (x : Index) (is : List Index) → AllByRecursion (Before index_name x) is →
    AllByRecursion (Before index_name x) (all_turned force moment file is)
all_turned_behind force moment file x [] h = tt
all_turned_behind force moment file x (i ∷ is) h = (h.0, all_turned_behind force moment (file + files_taken force moment i) x is h.1)

turned_ascend : (force : List Kept) (moment : ℤ) (file : ℕ) (is : List Index) → AreAscending index_name is →
    AreAscending index_name (all_turned force moment file is)
turned_ascend force moment file [] h = tt
turned_ascend force moment file (i ∷ is) h = (
  all_turned_behind force moment (file + files_taken force moment i) i is h.0,
  turned_ascend force moment (file + files_taken force moment i) is h.1,
)

abbrev pub Ascend : Catalog → Type 0
Ascend s = AreAscending index_name s.indexes

ascend_to : (force : List Kept) (moment : ℤ) (s : Catalog) (event : Event) (o : Option (List ℕ)) → Ascend s →
    Ascend (deal_to force moment s event o)
ascend_to force moment s event None h = h
ascend_to force moment s event (Some name) h =
    ascending_change_or_insert index_name name (filled force moment s.next_file (s.counts.placed + 1) (named name event)) (fresh_index name)
    (λ i. refl) refl s.indexes h

ascend_deal : (force : List Kept) (moment : ℤ) (s : Catalog) (o : Routed) → Ascend s → Ascend (deal force moment s o)
ascend_deal force moment s (To event) h = ascend_to force moment s event (home force event.index) h
ascend_deal force moment s Null h = h

pub keeps_ascending : Keeps Ascend
keeps_ascending = record {
  deals = ascend_deal;
  ticks = λ force moment s h. turned_ascend force moment s.next_file s.indexes h;
  rolls = λ index s h. ascending_change index_name index closed_index (λ i. refl) s.indexes h;
  thaws = λ index id s h. ascending_change index_name index (thawed_index id s.next_file) (λ i. refl) s.indexes h;
}

from_order : (choose : Chooser) (m : State) (history : List TimedCommand) → AreAscending life_name m.channels →
    AreAscending spot_path m.spots →
    AreAscending life_name (after_from choose m history).channels × AreAscending spot_path (after_from choose m history).spots
from_order choose m [] c s = (c, s)
from_order choose m (o ∷ history) c s =
    from_order choose (step choose m o) history (channels_ascend choose m o.command (effective m.last o.moment) c)
    (spots_ascend m o.command s)

pub in_order_after : (choose : Chooser) (history : List TimedCommand) → AreInOrder (state_after choose history)
in_order_after choose history =
    let both = from_order choose empty history tt tt in
    record { channels = both.0; indexes = keeps_after Ascend keeps_ascending choose empty history tt; spots = both.1 }

-- ---- what commands add is what they add for channels

each_behind : (x : ChannelHistory) (xs ys : List ChannelHistory) → AllByRecursion (Before life_name x) ys →
    AllByRecursion (λ (y : ChannelHistory). find life_name y.name xs ≡ Some y) ys →
    AllByRecursion (λ (y : ChannelHistory). find life_name y.name (x ∷ xs) ≡ Some y) ys
each_behind x xs [] a f = tt
each_behind x xs (y ∷ ys) a f = (rw (less_other x.name y.name a.0) f.0, each_behind x xs ys a.1 f.1)

found_each : (xs : List ChannelHistory) → AreAscending life_name xs →
    AllByRecursion (λ (y : ChannelHistory). find life_name y.name xs ≡ Some y) xs
found_each [] h = tt
found_each (x ∷ xs) h = (rw (bytes_same x.name x.name refl) refl, each_behind x xs xs h.0 (found_each xs h.1))

ends_each : (m : State) (ys : List ChannelHistory) → AllByRecursion (λ (y : ChannelHistory). life_in m y.name ≡ Some y) ys →
    flat_map (λ (y : ChannelHistory). end_adds (Some y)) ys ≡ flat_map (λ (y : ChannelHistory). end_adds (life_in m y.name)) ys
ends_each m [] h = refl
ends_each m (y ∷ ys) h =
    ap (λ (o : Option ChannelHistory). end_adds o ++ flat_map (λ (z : ChannelHistory). end_adds (Some z)) ys) (sym h.0)
    ∙ ap (λ (l : List Routed). end_adds (life_in m y.name) ++ l) (ends_each m ys h.1)

pub said_after : (choose : Chooser) (history : List TimedCommand) (moment : ℤ) → AreSaid choose (state_after choose history) moment
said_after choose history moment =
    let m = state_after choose history in
    record {
      block = λ channel bytes spot. rw (bytes_same channel channel refl) refl;
      ended = λ channel. rw (bytes_same channel channel refl) refl;
      configured = λ config. ends_each m m.channels (found_each m.channels (in_order_after choose history).channels);
    }
