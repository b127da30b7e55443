-- Where an event is put, and the bytes that this adds to a file: behind those of an open bucket, or
-- into a new file.
use Rattle.std.proofs.Common.{◌≡◌, ℕ, zero, suc, ◌+◌, ℤ, true, false, List, [], ◌∷◌, ◌++◌, length, refl, sym, ap, ◌∙◌, arith, subst, inl}
use Rattle.std.proofs.Common.{inr}
use Rattle.std.specs.Prelude.{Option, Some, None, ◌⊎◌, ◌==◌, is_none, nat_le, option_to_list, slice_get}
use Rattle.std.proofs.lemmas.Bool.Decides.{Decides-eqb}
use Rattle.ix_base.specs.declared.events.Event.{Event}
use Rattle.ix_base.specs.declared.files.Area.{Area}
use Rattle.ix_base.specs.declared.files.Area.TheVariants as areas
use Rattle.ix_items.specs.declared.items.Bucket.{Bucket}
use Rattle.ix_items.specs.declared.items.State.{State}
use Rattle.ix_items.specs.declared.items.State.TheVariants as states
use Rattle.ix_commit.specs.Parts.{home}
use Rattle.ix_life.specs.Housekeeping.{megabytes}
use Rattle.ix_life.specs.Placing.{takes, takes_events, spans, is_out, is_open, Numbered, numbered, into, rolls, id_of}
use Rattle.ix_life.specs.declared.limits.Limits.{Limits}
use Rattle.ix_model.specs.Buckets.{Standing, live, frozen, Slot, listed, buckets}
use Rattle.ix_model.specs.Placed.{change_live, rolled_slot, filled_slot, made_slot, target_of}
use Rattle.ix_model.specs.Placed as machine
use Rattle.ix_model.specs.Sums.{IsIn, IsStandingOf, AreSoundFrom}
use Rattle.ix_model.proofs.Named.{by_test}
use Rattle.ix_model.proofs.Placing.{IsAt, least_found, numbered_found, bucket_at, takes_open}
use Rattle.ix_catalog.specs.Buckets.{rolled, with_event, made, closed, state_for}
use Rattle.ix_catalog.specs.Dealing.{behind, found, piece}
use Rattle.ix_catalog.specs.Lists.{update}
use Rattle.ix_catalog.specs.Shelves.{by_id}
use Rattle.ix_model.specs.Contents.{filed_by, filed_slot}

none_some : {X : Type 0} {x : X} → None ≡ Some x → ⊥
none_some e = cc

some_same : {X : Type 0} {x y : X} → Some x ≡ Some y → x ≡ y
some_same e = cc

false_true : false ≡ true → ⊥
false_true e = cc

-- ---- by the numbers

not_it : (m n : ℕ) → (m ≡ n → ⊥) → (m == n) ≡ false
not_it m n d = by_test (m == n) (λ t. absurd (d ((Decides-eqb m n).0 t))) (λ t. t)

others_passed : (id a : ℕ) (index : List ℕ) (events : List Event) (standing : Standing) (bs : List Bucket) →
    IsStandingOf index a events standing → (a ≡ id → ⊥) →
    by_id id (option_to_list (listed standing) ++ bs) ≡ by_id id bs
others_passed id a index events (live b) bs h d = rw (not_it b.id id (λ e. d (sym h.is_of.id_is ∙ e))) refl
others_passed id a index events (frozen e None) bs h d = refl
others_passed id a index events (frozen e (Some b)) bs h d = rw (not_it b.id id (λ k. d (sym h.1.is_of.id_is ∙ k))) refl

found_live : (id a : ℕ) (index : List ℕ) (events : List Event) (standing : Standing) (bs : List Bucket) (b : Bucket) →
    IsStandingOf index a events standing → standing ≡ live b → id ≡ a →
    by_id id (option_to_list (listed standing) ++ bs) ≡ Some b
found_live id a index events standing bs b h e n =
    let sound : IsStandingOf index a events (live b) = subst (IsStandingOf index a events) e h in
    ap (λ (x : Standing). by_id id (option_to_list (listed x) ++ bs)) e ∙ rw ((Decides-eqb b.id id).1 (sound.is_of.id_is ∙ sym n)) refl

pub bucket_found : (id a j : ℕ) (index : List ℕ) (slots : List Slot) (s : Slot) (b : Bucket) → AreSoundFrom index a slots →
    slice_get slots j ≡ Some s → s.standing ≡ live b → id ≡ a + j →
    by_id id (buckets slots) ≡ Some b
bucket_found id a j index [] s b h p e n = absurd (none_some p)
bucket_found id a zero index (x ∷ slots) s b h p e n =
    found_live id a index x.events x.standing (buckets slots) b h.0 (ap (λ (y : Slot). y.standing) (some_same p) ∙ e) (omega (arith, n))
bucket_found id a (suc j) index (x ∷ slots) s b h p e n =
    others_passed id a index x.events x.standing (buckets slots) h.0 (λ q. omega (arith, q, n))
    ∙ bucket_found id (suc a) j index slots s b h.1 p e (omega (arith, n))

pub sound_at : (index : List ℕ) (a j : ℕ) (slots : List Slot) (s : Slot) → AreSoundFrom index a slots → slice_get slots j ≡ Some s →
    IsStandingOf index (a + j) s.events s.standing
sound_at index a j [] s h p = absurd (none_some p)
sound_at index a zero (x ∷ slots) s h p =
    subst (λ (n : ℕ). IsStandingOf index n s.events s.standing) (let e : a ≡ a + 0 = omega arith in e)
    (subst (λ (y : Slot). IsStandingOf index a y.events y.standing) (some_same p) h.0)
sound_at index a (suc j) (x ∷ slots) s h p =
    subst (λ (n : ℕ). IsStandingOf index n s.events s.standing) (let e : suc a + j ≡ a + suc j = omega arith in
    e) (sound_at index (suc a) j slots s h.1 p)

pub sound_from_start : (index : List ℕ) (j : ℕ) (slots : List Slot) (s : Slot) → AreSoundFrom index 0 slots → slice_get slots j ≡ Some s →
    IsStandingOf index j s.events s.standing
sound_from_start index j slots s h p =
    subst (λ (n : ℕ). IsStandingOf index n s.events s.standing) (let e : 0 + j ≡ j = omega arith in e) (sound_at index 0 j slots s h p)

-- a bucket that takes events is in the area of such
pub open_at_home : (state : State) (area : Area) → takes_events state ≡ true → IsIn state area → area ≡ areas.Home
open_at_home states.Hot area t h = h
open_at_home states.Quarantine area t h = h
open_at_home states.Warm area t h = absurd (false_true t)
open_at_home states.Cold area t h = absurd (false_true t)
open_at_home states.Thawed area t h = absurd (false_true t)

-- ---- the file of a bucket that changes

pub closed_file : (limits : Limits) (b : Bucket) → (closed limits b).file ≡ b.file
closed_file limits b = by_test (nat_le (megabytes limits.max_data_mb) b.bytes) (λ t. rw t refl) (λ t. rw t refl)

changed_filed : (events : List Event) (f : Bucket → Bucket) → ((b : Bucket) → (f b).file ≡ b.file) → (standing : Standing) →
    filed_by events (change_live f standing) ≡ filed_by events standing
changed_filed events f k (live b) = ap (λ file. record { file = file; events = events } ∷ []) (k b)
changed_filed events f k (frozen e other) = refl

pub rolled_filed : (s : Slot) → filed_slot (rolled_slot s) ≡ filed_slot s
rolled_filed s = changed_filed s.events rolled (λ b. refl) s.standing

pub filled_filed : (limits : Limits) (event : Event) (used : ℕ) (moment : ℤ) (s : Slot) (b : Bucket) → s.standing ≡ live b →
    filed_slot (filled_slot limits event used moment s) ≡ record { file = b.file; events = s.events ++ event ∷ [] } ∷ []
filled_filed limits event used moment s b e =
    changed_filed (s.events ++ event ∷ []) (λ (c : Bucket). closed limits (with_event event used moment c))
    (λ c. closed_file limits (with_event event used moment c)) s.standing
    ∙ ap (filed_by (s.events ++ event ∷ [])) e

-- ---- where it is put

-- into a bucket that takes events
pub record PutsInto (limits : Limits) (file : ℕ) (event : Event) (used : ℕ) (moment : ℤ) (slots : List Slot) : Type 0 where
  pub place : ℕ
  pub slot : Slot
  pub bucket : Bucket
  pub found : slice_get slots place ≡ Some slot
  pub stands : slot.standing ≡ live bucket
  pub takes : is_open bucket ≡ true
  pub comes_to : machine.placed limits file event used moment slots ≡ update place (filled_slot limits event used moment) slots
  pub piece_is : piece limits file event (buckets slots) ≡ behind event (Some bucket) file
  pub none_new : is_none (target_of limits event slots).into ≡ false

-- into a new one
pub record PutsBehind (limits : Limits) (file : ℕ) (event : Event) (used : ℕ) (moment : ℤ) (slots : List Slot) : Type 0 where
  pub rolls : Option ℕ
  pub made : Slot
  pub filed : filed_slot made ≡ record { file = home file; events = event ∷ [] } ∷ []
  pub comes_to : machine.placed limits file event used moment slots ≡ machine.roll rolls slots ++ made ∷ []
  pub piece_is : piece limits file event (buckets slots) ≡ behind event None file
  pub one_new : is_none (target_of limits event slots).into ≡ true

pub puts : (index : List ℕ) (limits : Limits) (file : ℕ) (event : Event) (used : ℕ) (moment : ℤ) (slots : List Slot) →
    AreSoundFrom index 0 slots →
    PutsInto limits file event used moment slots ⊎ PutsBehind limits file event used moment slots
puts index limits file event used moment slots h = by (into limits (is_out limits event.time event.arrival) event.time (buckets slots)) refl
  where
    by : (o : Option Numbered) → into limits (is_out limits event.time event.arrival) event.time (buckets slots) ≡ o →
        PutsInto limits file event used moment slots ⊎ PutsBehind limits file event used moment slots
    by None e =
        let t = target_of limits event slots in
        let rolled_slots = machine.roll t.rolls slots in
        inr (record {
          rolls = t.rolls;
          made = made_slot limits (length rolled_slots) t.quarantine file event used moment;
          filed = ap (λ f. record { file = f; events = event ∷ [] }
              ∷ []) (closed_file limits (made (length rolled_slots) (state_for t.quarantine) file event used moment));
          comes_to = ap (λ (o : Option Numbered). machine.put_into limits (id_of o) t.quarantine file event used moment rolled_slots) e;
          piece_is = ap (λ (o : Option Numbered). behind event (found (id_of o) (buckets slots)) file) e;
          one_new = ap (λ (o : Option Numbered). is_none (id_of o)) e;
        })
    by (Some x) e =
        let l = least_found (λ (y : Numbered). takes limits (is_out limits event.time event.arrival) event.time y.1)
        (λ (y : Numbered). y.1.id) (numbered (buckets slots)) x e in
        let open_is : takes_events x.1.state ≡ true = takes_open x.1.state (is_out limits event.time event.arrival)
        (spans limits event.time x.1) l.0 in
        let at : IsAt 0 slots x.1 = bucket_at index 0 slots x.1 h open_is (numbered_found 0 x (buckets slots) l.1) in
        let number : x.1.id ≡ at.place = omega (arith, at.number) in
        inl (record {
          place = at.place;
          slot = at.slot;
          bucket = x.1;
          found = at.found;
          stands = at.stands;
          takes = open_is;
          comes_to = ap (λ (o : Option Numbered). machine.put_into limits (id_of o) (is_out limits event.time event.arrival) file event used
              moment
              (machine.roll (id_of (rolls limits o (buckets slots))) slots)) e
              ∙ ap (λ (n : ℕ). update n (filled_slot limits event used moment) slots) number;
          piece_is = ap (λ (o : Option Numbered). behind event (found (id_of o) (buckets slots)) file) e
              ∙ ap (λ (o : Option Bucket). behind event o file)
              (bucket_found x.1.id 0 at.place index slots at.slot x.1 h at.found at.stands at.number);
          none_new = ap (λ (o : Option Numbered). is_none (id_of o)) e;
        })
