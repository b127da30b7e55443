-- Where an event is placed: into a live bucket, or into a new one. And what that leaves true of the
-- buckets.
use Rattle.std.proofs.Common.{◌≡◌, ℕ, suc, ◌+◌, ℤ, Bool, true, false, List, [], ◌∷◌, ◌++◌, length, refl, sym, ap, ◌∙◌, arith, inl, inr}
use Rattle.std.specs.Prelude.{Option, Some, None, if◌then◌else◌, ◌⊎◌, nat_le, slice_get, option_to_list}
use Rattle.std.specs.List.{enumerate_from}
use Rattle.ix_base.specs.declared.events.Event.{Event}
use Rattle.ix_items.specs.declared.items.Bucket.{Bucket}
use Rattle.ix_items.specs.declared.items.State.{State}
use Rattle.ix_items.specs.declared.items.State.TheVariants as states
use Rattle.ix_life.specs.Placing.{lesser, least, takes_events, takes_as, takes, spans, is_out, Numbered, numbered, into, rolls, id_of}
use Rattle.ix_life.specs.declared.limits.Limits.{Limits}
use Rattle.ix_model.specs.Buckets.{Standing, live, frozen, Slot, listed, buckets}
use Rattle.ix_catalog.specs.Lists.{update}
use Rattle.ix_model.specs.Placed.{filled_slot, made_slot, roll, put_into, target_of, placed}
use Rattle.ix_model.specs.Sums.{IsStandingOf, AreSoundFrom}
use Rattle.ix_model.proofs.Named.{by_test}

-- ---- the least of a list is one of it, and passes the test

abbrev pub In : {A : Type 0} → A → List A → Type 0
In x [] = ⊥
In x (y ∷ ys) = (y ≡ x) ⊎ In x ys

lesser_is : {A : Type 0} (key : A → ℕ) (a b : Option A) (x : A) → lesser key a b ≡ Some x → (a ≡ Some x) ⊎ (b ≡ Some x)
lesser_is key None b x e = inr e
lesser_is key (Some a) None x e = inl e
lesser_is key (Some a) (Some b) x e = by_test (nat_le (key a) (key b)) (λ t. inl (rw t at e)) (λ t. inr (rw t at e))

some_same : {A : Type 0} (x y : A) → Some x ≡ Some y → x ≡ y
some_same x y e = cc

none_some : {A : Type 0} {x : A} → None ≡ Some x → ⊥
none_some e = cc

pub least_found : {A : Type 0} (test : A → Bool) (key : A → ℕ) (xs : List A) (x : A) → least test key xs ≡ Some x → (test x ≡ true)
    × In x xs
least_found test key [] x e = absurd (none_some e)
least_found {A = A} test key (y ∷ ys) x e = by (lesser_is key (if test y then Some y else None) (least test key ys) x e)
    (least_found test key ys x)
  where
    first : (b : Bool) → test y ≡ b → (if b then Some y else None) ≡ Some x → (test x ≡ true) × In x (y ∷ ys)
    first true t h = (ap test (sym (some_same y x h)) ∙ t, inl (some_same y x h))
    first false t h = absurd (none_some h)

    by : ((if test y then Some y else None) ≡ Some x) ⊎ (least test key ys ≡ Some x) →
        (least test key ys ≡ Some x → (test x ≡ true) × In x ys) → (test x ≡ true) × In x (y ∷ ys)
    by (inl h) behind = first (test y) refl h
    by (inr h) behind = let r = behind h in (r.0, inr r.1)

pub numbered_found : (n : ℕ) (x : Numbered) (bs : List Bucket) → In x (enumerate_from n bs) → In x.1 bs
numbered_found n x [] h = absurd h
numbered_found n x (b ∷ bs) (inl e) = inl (ap (λ (p : Numbered). p.1) e)
numbered_found n x (b ∷ bs) (inr h) = inr (numbered_found (n + 1) x bs h)

-- ---- a bucket that is listed and takes events is live, at the place of its number

pub record IsAt (id : ℕ) (slots : List Slot) (b : Bucket) : Type 0 where
  pub place : ℕ
  pub slot : Slot
  pub number : b.id ≡ id + place
  pub found : slice_get slots place ≡ Some slot
  pub stands : slot.standing ≡ live b

thawed_takes_none : (state : State) → state ≡ states.Thawed → takes_events state ≡ true → ⊥
thawed_takes_none state e t = true-false (sym (ap takes_events e) ∙ t)
  where
    true-false : false ≡ true → ⊥
    true-false h = cc

further : (id : ℕ) (s : Slot) (slots : List Slot) (b : Bucket) → IsAt (suc id) slots b → IsAt id (s ∷ slots) b
further id s slots b h = record {
  place = suc h.place;
  slot = h.slot;
  number = omega (arith, h.number);
  found = h.found;
  stands = h.stands;
}

listed_at : (index : List ℕ) (id : ℕ) (events : List Event) (standing : Standing) (slots : List Slot) (b : Bucket) →
    IsStandingOf index id events standing →
    takes_events b.state ≡ true → (rest : IsAt (suc id) slots b → IsAt id (record { events = events; standing = standing } ∷ slots) b) →
    (behind : In b (buckets slots) → IsAt (suc id) slots b) →
    In b (option_to_list (listed standing) ++ buckets slots) → IsAt id (record { events = events; standing = standing } ∷ slots) b
listed_at index id events (live c) slots b h t rest behind (inl e) = record {
  place = 0;
  slot = record { events = events; standing = live c };
  number = (let k : b.id ≡ c.id = ap (λ (x : Bucket). x.id) (sym e) in let n : c.id ≡ id = h.is_of.id_is in omega (arith, k, n));
  found = refl;
  stands = ap (λ (x : Bucket). live x) e;
}
listed_at index id events (live c) slots b h t rest behind (inr m) = rest (behind m)
listed_at index id events (frozen e None) slots b h t rest behind m = rest (behind m)
listed_at index id events (frozen e (Some c)) slots b h t rest behind (inl k) =
    absurd (thawed_takes_none b.state (ap (λ (x : Bucket). x.state) (sym k) ∙ h.1.state_is) t)
listed_at index id events (frozen e (Some c)) slots b h t rest behind (inr m) = rest (behind m)

pub bucket_at : (index : List ℕ) (id : ℕ) (slots : List Slot) (b : Bucket) → AreSoundFrom index id slots → takes_events b.state ≡ true →
    In b (buckets slots) → IsAt id slots b
bucket_at index id [] b h t m = absurd m
bucket_at index id (s ∷ slots) b h t m =
    listed_at index id s.events s.standing slots b h.0 t (further id s slots b) (λ k. bucket_at index (suc id) slots b h.1 t k) m

-- ---- what placing comes to

pub takes_open : (state : State) (out span : Bool) → takes_as state out span ≡ true → takes_events state ≡ true
takes_open states.Hot out span e = refl
takes_open states.Quarantine out span e = refl
takes_open states.Warm out span e = e
takes_open states.Cold out span e = e
takes_open states.Thawed out span e = e

-- into a live bucket that takes events
pub record GoesInto (limits : Limits) (file : ℕ) (event : Event) (used : ℕ) (moment : ℤ) (slots : List Slot) : Type 0 where
  pub place : ℕ
  pub slot : Slot
  pub bucket : Bucket
  pub is_into : (target_of limits event slots).into ≡ Some place
  pub found : slice_get slots place ≡ Some slot
  pub stands : slot.standing ≡ live bucket
  pub comes_to : placed limits file event used moment slots ≡ update place (filled_slot limits event used moment) slots

-- into a new one behind all others
pub record GoesBehind (limits : Limits) (file : ℕ) (event : Event) (used : ℕ) (moment : ℤ) (slots : List Slot) : Type 0 where
  pub is_into : (target_of limits event slots).into ≡ None
  pub rolls : Option ℕ
  pub quarantine : Bool
  pub comes_to : placed limits file event used moment slots
      ≡ roll rolls slots ++ made_slot limits (length (roll rolls slots)) quarantine file event used moment ∷ []

goes_by : (index : List ℕ) (limits : Limits) (file : ℕ) (event : Event) (used : ℕ) (moment : ℤ) (slots : List Slot) →
    AreSoundFrom index 0 slots →
    (found : Option Numbered) → into limits (is_out limits event.time event.arrival) event.time (buckets slots) ≡ found →
    GoesInto limits file event used moment slots ⊎ GoesBehind limits file event used moment slots
goes_by index limits file event used moment slots h None e = inr (record {
  is_into = ap id_of e;
  rolls = (target_of limits event slots).rolls;
  quarantine = (target_of limits event slots).quarantine;
  comes_to = ap (λ (o : Option Numbered). put_into limits (id_of o) (target_of limits event slots).quarantine file event used moment
      (roll (target_of limits event slots).rolls slots)) e;
})
goes_by index limits file event used moment slots h (Some x) e =
    let l = least_found (λ (y : Numbered). takes limits (is_out limits event.time event.arrival) event.time y.1) (λ (y : Numbered). y.1.id)
    (numbered (buckets slots)) x e in
    let open_is : takes_events x.1.state ≡ true =
    takes_open x.1.state (is_out limits event.time event.arrival) (spans limits event.time x.1) l.0 in
    let at : IsAt 0 slots x.1 = bucket_at index 0 slots x.1 h open_is (numbered_found 0 x (buckets slots) l.1) in
    let number : x.1.id ≡ at.place = omega (arith, at.number) in
    inl (record {
      place = at.place;
      slot = at.slot;
      bucket = x.1;
      is_into = ap id_of e ∙ ap (λ (n : ℕ). Some n) number;
      found = at.found;
      stands = at.stands;
      comes_to = ap (λ (o : Option Numbered). put_into limits (id_of o) (is_out limits event.time event.arrival) file event used moment
          (roll (id_of (rolls limits o (buckets slots))) slots)) e
          ∙ ap (λ (n : ℕ). update n (filled_slot limits event used moment) slots) number;
    })

pub goes : (index : List ℕ) (limits : Limits) (file : ℕ) (event : Event) (used : ℕ) (moment : ℤ) (slots : List Slot) →
    AreSoundFrom index 0 slots →
    GoesInto limits file event used moment slots ⊎ GoesBehind limits file event used moment slots
goes index limits file event used moment slots h = goes_by index limits file event used moment slots h _ refl
