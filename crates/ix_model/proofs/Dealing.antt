-- The events that are dealt to an index lie in its buckets, each in one, and in order.
use Rattle.std.proofs.Common.{◌≡◌, ◌≢◌, ◌<◌, ◌≤◌, ℕ, zero, suc, ◌+◌, ℤ, Bool, true, false, List, [], ◌∷◌, ◌++◌, length, map, refl, sym, ap}
use Rattle.std.proofs.Common.{◌∙◌, arith, subst, inl, inr, append_assoc}
use Rattle.std.specs.Prelude.{Option, Some, None, ◌⊎◌, ◌==◌, if◌then◌else◌, slice_get, unwrap_or, bytes_eq}
use Rattle.std.specs.List.{AllByRecursion}
use Rattle.std.specs.Option.{option_map}
use Rattle.std.proofs.lemmas.Bool.Decides.{Decides-eqb}
use Rattle.std.proofs.lemmas.List.{append-nil, length_push, length-map}
use Rattle.ix_base.specs.declared.events.Event.{Event}
use Rattle.ix_base.specs.declared.events.Routed.{Routed}
use Rattle.ix_base.specs.declared.events.Routed.TheVariants.{To, Null}
use Rattle.ix_items.specs.declared.items.Kept.{Kept}
use Rattle.ix_life.specs.declared.limits.Limits.{Limits}
use Rattle.ix_model.specs.Buckets.{Slot, Index}
use Rattle.ix_model.specs.Dealt.{stored_at, dealt_by, all_dealt, dealt_from, dealt, contents, part, picked, AreSplit}
use Rattle.ix_model.specs.Given.{Chooser, home, limits}
use Rattle.ix_model.specs.Keeping.{turned, file_behind, closed_slot, thawed_slot}
use Rattle.ix_catalog.specs.Buckets.{Turn}
use Rattle.ix_model.specs.Keeping as kept
use Rattle.ix_catalog.specs.Lists.{find, update, change}
use Rattle.ix_model.specs.Placed.{rolled_slot, filled_slot, made_slot, roll, placed}
use Rattle.ix_model.specs.State.{State, Catalog, index_name, fresh_index, slots_in, empty}
use Rattle.ix_model.specs.Step.{filled, put_event, deal_to, deal, deal_all, outcomes, turn_in, files_taken, all_turned, tick, closed_index}
use Rattle.ix_model.specs.Step.{thaw, thawed_index, moves, effective, step, after_from, state_after}
use Rattle.ix_catalog.specs.Buckets.{named}
use Rattle.ix_model.specs.Step as steps
use Rattle.ix_model.specs.Sums.{AreSoundFrom, IsSound}
use Rattle.ix_model.specs.declared.commands.Command.{Command}
use Rattle.ix_model.specs.declared.commands.Command.TheVariants.{Begin, Block, End, Tick, Roll, Thaw, Configure, Direct}
use Rattle.ix_model.specs.declared.commands.TimedCommand.{TimedCommand}
use Rattle.ix_model.proofs.Named.{by_test, same_bytes, find_change, find_change_or_insert, all_found}
use Rattle.ix_model.proofs.Placing.{GoesInto, GoesBehind, goes}
use Rattle.ix_model.proofs.Stepping.{AllSound, keeps_sound, keeps_step}

-- ---- one event more

none_some : {X : Type 0} {x : X} → None ≡ Some x → ⊥
none_some e = cc

some_same : {A : Type 0} (x y : A) → Some x ≡ Some y → x ≡ y
some_same x y e = cc

-- an event, where it went to place k
abbrev one : ℕ → ℕ → Event → List Event
one place k e = if place == k then e ∷ [] else []

same_one : (place k : ℕ) (e : Event) → place ≡ k → one place k e ≡ e ∷ []
same_one place k e h = rw ((Decides-eqb place k).1 h) refl

other_test : (place k : ℕ) → place ≢ k → (place == k) ≡ false
other_test place k h = by_test (place == k) (λ t. absurd (h ((Decides-eqb place k).0 t))) (λ t. t)

other_one : (place k : ℕ) (e : Event) → place ≢ k → one place k e ≡ []
other_one place k e h = rw (other_test place k h) refl

picked_push : (k : ℕ) (places : List ℕ) (events : List Event) (place : ℕ) (e : Event) → length places ≡ length events →
    picked k (places ++ place ∷ []) (events ++ e ∷ []) ≡ picked k places events ++ one place k e
picked_push k [] [] place e h = refl
picked_push k [] (x ∷ events) place e h = absurd (omega (arith, h))
picked_push k (p ∷ places) [] place e h = absurd (omega (arith, h))
picked_push k (p ∷ places) (x ∷ events) place e h =
    by_test (p == k)
    (λ t. rw t (ap (λ (l : List Event). x ∷ l) (picked_push k places events place e (omega (arith, h)))))
    (λ t. rw t (picked_push k places events place e (omega (arith, h))))

all_more : (n m : ℕ) (places : List ℕ) → n ≤ m → AllByRecursion (λ k. k < n) places → AllByRecursion (λ k. k < m) places
all_more n m [] l h = tt
all_more n m (k ∷ places) l h = ((let a : k < n = h.0 in omega (arith, a, l)), all_more n m places l h.1)

all_push : (n place : ℕ) (places : List ℕ) → place < n → AllByRecursion (λ k. k < n) places →
    AllByRecursion (λ k. k < n) (places ++ place ∷ [])
all_push n place [] l h = (l, tt)
all_push n place (k ∷ places) l h = (h.0, all_push n place places l h.1)

split_more : (events : List Event) (parts parts' : List (List Event)) (place : ℕ) (e : Event) → AreSplit events parts →
    length parts ≤ length parts' →
    place < length parts' → ((k : ℕ) → part k parts' ≡ part k parts ++ one place k e) → AreSplit (events ++ e ∷ []) parts'
split_more events parts parts' place e h more within each = record {
  places = h.places ++ place ∷ [];
  as_many = (let a = length_push h.places place in let b = length_push events e in let c = h.as_many in omega (arith, a, b, c));
  within = all_push (length parts') place h.places within (all_more (length parts) (length parts') h.places more h.within);
  each = λ k. each k ∙ ap (λ (l : List Event). l ++ one place k e) (h.each k) ∙ sym (picked_push k h.places events place e h.as_many);
}

-- ---- what placing does to the parts

contents_update : (k : ℕ) (f : Slot → Slot) → ((s : Slot) → (f s).events ≡ s.events) → (slots : List Slot) →
    contents (update k f slots) ≡ contents slots
contents_update k f e [] = refl
contents_update zero f e (s ∷ slots) = ap (λ (l : List Event). l ∷ contents slots) (e s)
contents_update (suc k) f e (s ∷ slots) = ap (λ (l : List (List Event)). s.events ∷ l) (contents_update k f e slots)

contents_roll : (o : Option ℕ) (slots : List Slot) → contents (roll o slots) ≡ contents slots
contents_roll None slots = refl
contents_roll (Some k) slots = contents_update k rolled_slot (λ s. refl) slots

length_contents : (slots : List Slot) → length (contents slots) ≡ length slots
length_contents slots = length-map slots (λ (s : Slot). s.events)

pub length_update : (k : ℕ) (f : Slot → Slot) (slots : List Slot) → length (update k f slots) ≡ length slots
length_update k f [] = refl
length_update zero f (s ∷ slots) = omega arith
length_update (suc k) f (s ∷ slots) = let r = length_update k f slots in omega (arith, r)

within_by : (k : ℕ) (s : Slot) (slots : List Slot) → slice_get slots k ≡ Some s → k < length slots
within_by k s [] e = absurd (none_some e)
within_by zero s (x ∷ slots) e = omega arith
within_by (suc k) s (x ∷ slots) e = let r = within_by k s slots e in omega (arith, r)

part_same : (place : ℕ) (f : Slot → Slot) (e : Event) → ((s : Slot) → (f s).events ≡ s.events ++ e ∷ []) → (s : Slot) (slots : List Slot) →
    slice_get slots place ≡ Some s → part place (contents (update place f slots)) ≡ part place (contents slots) ++ e ∷ []
part_same place f e h s [] at = absurd (none_some at)
part_same zero f e h s (x ∷ slots) at = h x
part_same (suc place) f e h s (x ∷ slots) at = part_same place f e h s slots at

part_other : (place k : ℕ) (f : Slot → Slot) (slots : List Slot) → place ≢ k →
    part k (contents (update place f slots)) ≡ part k (contents slots)
part_other place k f [] d = refl
part_other zero zero f (x ∷ slots) d = absurd (d refl)
part_other zero (suc k) f (x ∷ slots) d = refl
part_other (suc place) zero f (x ∷ slots) d = refl
part_other (suc place) (suc k) f (x ∷ slots) d = part_other place k f slots (λ e. d (ap suc e))

part_update : (place : ℕ) (f : Slot → Slot) (e : Event) → ((s : Slot) → (f s).events ≡ s.events ++ e ∷ []) →
    (s : Slot) (slots : List Slot) →
    slice_get slots place ≡ Some s → (k : ℕ) → part k (contents (update place f slots)) ≡ part k (contents slots) ++ one place k e
part_update place f e h s slots at k = by_test (place == k)
    (λ t. rw t (subst (λ (j : ℕ). part j (contents (update place f slots)) ≡ part j (contents slots) ++ e ∷ []) ((Decides-eqb place k).0 t)
    (part_same place f e h s slots at)))
    (λ t. rw t (part_other place k f slots (λ d. true-false (sym ((Decides-eqb place k).1 d) ∙ t))
    ∙ sym (append-nil (part k (contents slots)))))
  where
    true-false : true ≡ false → ⊥
    true-false c = cc

part_last : (parts : List (List Event)) (last : List Event) → part (length parts) (parts ++ last ∷ []) ≡ part (length parts) parts ++ last
part_last parts last = by parts (length parts) refl
  where
    by : (ps : List (List Event)) (n : ℕ) → n ≡ length ps → part n (ps ++ last ∷ []) ≡ part n ps ++ last
    by [] zero e = refl
    by [] (suc n) e = absurd (omega (arith, e))
    by (p ∷ ps) zero e = absurd (omega (arith, e))
    by (p ∷ ps) (suc n) e = by ps n (omega (arith, e))

part_before : (k : ℕ) (parts : List (List Event)) (last : List Event) → length parts ≢ k → part k (parts ++ last ∷ []) ≡ part k parts
part_before zero [] last d = absurd (d refl)
part_before (suc k) [] last d = refl
part_before zero (p ∷ parts) last d = refl
part_before (suc k) (p ∷ parts) last d = part_before k parts last (λ e. d (omega (arith, e)))

part_push : (parts : List (List Event)) (e : Event) (k : ℕ) → part k (parts ++ (e ∷ []) ∷ []) ≡ part k parts ++ one (length parts) k e
part_push parts e k = by_test (length parts == k)
    (λ t. rw t (subst (λ (j : ℕ). part j (parts ++ (e ∷ []) ∷ []) ≡ part j parts ++ e
    ∷ []) ((Decides-eqb (length parts) k).0 t) (part_last parts (e ∷ []))))
    (λ t. rw t (part_before k parts (e ∷ []) (λ d. true-false (sym ((Decides-eqb (length parts) k).1 d) ∙ t))
    ∙ sym (append-nil (part k parts))))
  where
    true-false : true ≡ false → ⊥
    true-false c = cc

map_push : (slots : List Slot) (s : Slot) → contents (slots ++ s ∷ []) ≡ contents slots ++ s.events ∷ []
map_push [] s = refl
map_push (x ∷ slots) s = ap (λ (l : List (List Event)). x.events ∷ l) (map_push slots s)

split_by : (limits : Limits) (file : ℕ) (event : Event) (used : ℕ) (moment : ℤ) (slots : List Slot) (events : List Event) →
    AreSplit events (contents slots) →
    GoesInto limits file event used moment slots ⊎ GoesBehind limits file event used moment slots →
    AreSplit (events ++ event ∷ []) (contents (placed limits file event used moment slots))
split_by limits file event used moment slots events h (inl g) =
    let f = filled_slot limits event used moment in
    let same : length (contents (update g.place f slots)) ≡ length (contents slots) =
    length_contents (update g.place f slots) ∙ length_update g.place f slots ∙ sym (length_contents slots) in
    let within : g.place < length (contents slots) = rw (length_contents slots) (within_by g.place g.slot slots g.found) in
    subst (λ (l : List Slot). AreSplit (events ++ event ∷ []) (contents l)) (sym g.comes_to)
    (split_more events (contents slots) (contents (update g.place f slots)) g.place event h (omega (arith, same))
    (omega (arith, same, within))
    (part_update g.place f event (λ s. refl) g.slot slots g.found))
split_by limits file event used moment slots events h (inr g) =
    let made = made_slot limits (length (roll g.rolls slots)) g.quarantine file event used moment in
    let is : contents (roll g.rolls slots ++ made ∷ []) ≡ contents slots ++ (event ∷ []) ∷ [] =
    map_push (roll g.rolls slots) made ∙ ap (λ (l : List (List Event)). l ++ (event ∷ []) ∷ []) (contents_roll g.rolls slots) in
    let more : length (contents slots ++ (event ∷ []) ∷ []) ≡ length (contents slots) + 1 = length_push (contents slots) (event ∷ []) in
    subst (λ (l : List Slot). AreSplit (events ++ event ∷ []) (contents l)) (sym g.comes_to)
    (subst (AreSplit (events ++ event ∷ [])) (sym is)
    (split_more events (contents slots) (contents slots ++ (event ∷ [])
    ∷ []) (length (contents slots)) event h (omega (arith, more)) (omega (arith, more))
    (part_push (contents slots) event)))

-- ---- one outcome more

-- the parts of the index of this name
abbrev parts_of : Catalog → List ℕ → List (List Event)
parts_of s name = contents (slots_in s.indexes name)

sound_in : (s : Catalog) (name : List ℕ) → AllSound s → (o : Option Index) → find index_name name s.indexes ≡ o →
    AreSoundFrom (unwrap_or o (fresh_index name)).name 0 (unwrap_or o (fresh_index name)).slots
sound_in s name h None e = tt
sound_in s name h (Some i) e = all_found IsSound index_name name i s.indexes h e

put_split : (force : List Kept) (moment : ℤ) (s : Catalog) (event : Event) (index name : List ℕ) (events : List Event) → AllSound s →
    AreSplit events (parts_of s name) → (b : Bool) → bytes_eq index name ≡ b →
    AreSplit (events ++ (if b then named index event ∷ [] else [])) (parts_of (put_event force moment s (named index event) index) name)
put_split force moment s event index name events sound h b e =
    subst (λ (o : Option Index). AreSplit (events ++ (if b then named index event ∷ [] else []))
    (contents (unwrap_or o (fresh_index name)).slots))
    (sym (find_change_or_insert index_name index name (filled force moment s.next_file (s.counts.placed + 1) (named index event))
    (fresh_index index) (λ i. refl) refl s.indexes
    ∙ ap (λ (t : Bool). if t then Some (filled force moment s.next_file (s.counts.placed + 1) (named index event)
    (unwrap_or (find index_name index s.indexes) (fresh_index index))) else find index_name name s.indexes) e))
    (by b e)
  where
    old : Index
    old = unwrap_or (find index_name index s.indexes) (fresh_index index)

    same : bytes_eq index name ≡ true → AreSplit events (contents old.slots)
    same t = subst (λ (n : List ℕ). AreSplit events (contents (unwrap_or (find index_name n s.indexes) (fresh_index n)).slots))
        (sym (same_bytes index name t)) h

    by : (c : Bool) → bytes_eq index name ≡ c →
        AreSplit (events ++ (if c then named index event ∷ [] else []))
        (contents (unwrap_or (if c then Some (filled force moment s.next_file (s.counts.placed + 1) (named index event) old) else find
        index_name name s.indexes) (fresh_index name)).slots)
    by true t = split_by (limits force old.name) s.next_file (named index event) (s.counts.placed + 1) moment old.slots events (same t)
        (goes old.name (limits force old.name) s.next_file (named index event) (s.counts.placed + 1) moment old.slots
        (sound_in s index sound (find index_name index s.indexes) refl))
    by false t = subst (λ (l : List Event). AreSplit l (parts_of s name)) (sym (append-nil events)) h

to_split : (force : List Kept) (moment : ℤ) (s : Catalog) (event : Event) (o : Option (List ℕ)) (name : List ℕ) (events : List Event) →
    AllSound s →
    AreSplit events (parts_of s name) → AreSplit (events ++ stored_at name event o) (parts_of (deal_to force moment s event o) name)
to_split force moment s event None name events sound h =
    subst (λ (l : List Event). AreSplit l (parts_of s name)) (sym (append-nil events)) h
to_split force moment s event (Some index) name events sound h =
    put_split force moment s event index name events sound h (bytes_eq index name) refl

deal_split : (force : List Kept) (moment : ℤ) (s : Catalog) (o : Routed) (name : List ℕ) (events : List Event) → AllSound s →
    AreSplit events (parts_of s name) → AreSplit (events ++ dealt_by force name o) (parts_of (deal force moment s o) name)
deal_split force moment s (To event) name events sound h = to_split force moment s event (home force event.index) name events sound h
deal_split force moment s Null name events sound h = subst (λ (l : List Event). AreSplit l (parts_of s name)) (sym (append-nil events)) h

all_split : (force : List Kept) (moment : ℤ) (s : Catalog) (os : List Routed) (name : List ℕ) (events : List Event) → AllSound s →
    AreSplit events (parts_of s name) → AreSplit (events ++ all_dealt force name os) (parts_of (deal_all force moment s os) name)
all_split force moment s [] name events sound h = subst (λ (l : List Event). AreSplit l (parts_of s name)) (sym (append-nil events)) h
all_split force moment s (o ∷ os) name events sound h =
    subst (λ (l : List Event). AreSplit l (parts_of (deal_all force moment s (o ∷ os)) name))
    (append_assoc events (dealt_by force name o) (all_dealt force name os))
    (all_split force moment (deal force moment s o) os name (events ++ dealt_by force name o) (keeps_sound.deals force moment s o sound)
    (deal_split force moment s o name events sound h))

-- ---- turns, rolls and thaws leave the events where they lie

contents_turned : (t : Turn) (file : ℕ) (slots : List Slot) → contents (kept.all_turned t file slots) ≡ contents slots
contents_turned t file [] = refl
contents_turned t file (s ∷ slots) = ap (λ (l : List (List Event)). s.events ∷ l) (contents_turned t (file_behind t file s.standing) slots)

contents_closed : (slots : List Slot) → contents (map closed_slot slots) ≡ contents slots
contents_closed [] = refl
contents_closed (s ∷ slots) = ap (λ (l : List (List Event)). s.events ∷ l) (contents_closed slots)

turns_same : (force : List Kept) (moment : ℤ) (file : ℕ) (is : List Index) (name : List ℕ) →
    contents (slots_in (all_turned force moment file is) name) ≡ contents (slots_in is name)
turns_same force moment file [] name = refl
turns_same force moment file (i ∷ is) name =
    by (bytes_eq i.name name) (turns_same force moment (file + files_taken force moment i) is name)
  where
    rest : List Index
    rest = all_turned force moment (file + files_taken force moment i) is

    by : (b : Bool) → contents (slots_in rest name) ≡ contents (slots_in is name) →
        contents (unwrap_or (if b then Some (steps.turned_index force moment file i) else find index_name name rest)
        (fresh_index name)).slots
        ≡ contents (unwrap_or (if b then Some i else find index_name name is) (fresh_index name)).slots
    by true same = contents_turned (turn_in force moment i) file i.slots
    by false same = same

changed_same : (f : Index → Index) → ((i : Index) → contents (f i).slots ≡ contents i.slots) →
    (b : Bool) (o : Option Index) (name : List ℕ) →
    contents (unwrap_or (if b then option_map f o else o) (fresh_index name)).slots ≡ contents (unwrap_or o (fresh_index name)).slots
changed_same f k false o name = refl
changed_same f k true None name = refl
changed_same f k true (Some i) name = k i

change_same : (index : List ℕ) (f : Index → Index) → ((i : Index) → (f i).name ≡ i.name) →
    ((i : Index) → contents (f i).slots ≡ contents i.slots) →
    (is : List Index) (name : List ℕ) → contents (slots_in (change index_name index f is) name) ≡ contents (slots_in is name)
change_same index f n k is name =
    ap (λ (o : Option Index). contents (unwrap_or o (fresh_index name)).slots) (find_change index_name index name f n is)
    ∙ changed_same f k (bytes_eq index name) (find index_name name is) name

moves_same : (force : List Kept) (command : Command) (moment : ℤ) (s : Catalog) (name : List ℕ) →
    parts_of (moves force command moment s) name ≡ parts_of s name
moves_same force (Begin channel meta) moment s name = refl
moves_same force (Block channel bytes spot) moment s name = refl
moves_same force (End channel) moment s name = refl
moves_same force Tick moment s name = turns_same force moment s.next_file s.indexes name
moves_same force (Roll index) moment s name = change_same index closed_index (λ i. refl) (λ i. contents_closed i.slots) s.indexes name
moves_same force (Thaw index id) moment s name =
    change_same index (thawed_index id s.next_file) (λ i. refl) (λ i. contents_update id (thawed_slot s.next_file) (λ t. refl) i.slots)
    s.indexes name
moves_same force (Configure config) moment s name = refl
moves_same force (Direct events) moment s name = refl

-- ---- histories

from_split : (choose : Chooser) (m : State) (history : List TimedCommand) (name : List ℕ) (events : List Event) → AllSound m.catalog →
    AreSplit events (parts_of m.catalog name) → AreSplit (events
    ++ dealt_from choose m history name) (parts_of (after_from choose m history).catalog name)
from_split choose m [] name events sound h = subst (λ (l : List Event). AreSplit l (parts_of m.catalog name)) (sym (append-nil events)) h
from_split choose m (o ∷ history) name events sound h =
    let moment = effective m.last o.moment in
    let more = all_dealt m.force name (outcomes choose m o.command moment) in
    let dealt_all = all_split m.force moment m.catalog (outcomes choose m o.command moment) name events sound h in
    let stepped = subst (AreSplit (events ++ more))
    (sym (moves_same m.force o.command moment (deal_all m.force moment m.catalog (outcomes choose m o.command moment)) name)) dealt_all in
    subst (λ (l : List Event). AreSplit l (parts_of (after_from choose (step choose m o) history).catalog name))
    (append_assoc events more (dealt_from choose (step choose m o) history name))
    (from_split choose (step choose m o) history name (events ++ more) (keeps_step AllSound keeps_sound choose m o sound) stepped)

nothing_split : AreSplit [] []
nothing_split = record { places = []; as_many = refl; within = tt; each = nothing }
  where
    nothing : (k : ℕ) → part k [] ≡ picked k [] []
    nothing k = refl

pub split_after : (choose : Chooser) (history : List TimedCommand) (name : List ℕ) →
    AreSplit (dealt choose history name) (contents (slots_in (state_after choose history).catalog.indexes name))
split_after choose history name = from_split choose empty history name [] tt nothing_split
