-- The bytes of the events that are dealt lead to what the files then begin with.
use Rattle.std.proofs.Common.{◌≡◌, ◌≤◌, ℕ, zero, suc, ◌+◌, ℤ, Bool, true, false, List, [], ◌∷◌, ◌++◌, refl, sym, ap, ◌∙◌, arith, subst}
use Rattle.std.proofs.Common.{inl, inr}
use Rattle.std.specs.Prelude.{Option, Some, None, ◌⊎◌, if◌then◌else◌, slice_get, unwrap_or, bytes_eq}
use Rattle.std.proofs.lemmas.Grind.{flat_map-append}
use Rattle.std.proofs.lemmas.List.{append-nil}
use Rattle.ix_base.specs.declared.events.Event.{Event}
use Rattle.ix_base.specs.declared.files.Area.{Area}
use Rattle.ix_base.specs.declared.files.File.{File}
use Rattle.ix_bucket.specs.Record.{event_bytes, records}
use Rattle.ix_disk.specs.Files.{is_same, same_file}
use Rattle.ix_disk.specs.Image.{content}
use Rattle.ix_items.specs.declared.items.Kept.{Kept}
use Rattle.ix_commit.specs.Contents.{Contents, filling}
use Rattle.ix_commit.specs.Drafts.{with_piece, IsFit}
use Rattle.ix_commit.specs.Parts.{home}
use Rattle.ix_commit.specs.Snapshot.{Forgets}
use Rattle.ix_commit.specs.declared.write_batch.Append.{Append}
use Rattle.ix_life.specs.declared.limits.Limits.{Limits}
use Rattle.ix_model.specs.Buckets.{Slot, Index, buckets}
use Rattle.ix_model.specs.Files.{AreApart}
use Rattle.ix_model.specs.Given.{limits}
use Rattle.ix_model.specs.Placed.{rolled_slot, filled_slot, target_of}
use Rattle.ix_model.specs.Placed as machine
use Rattle.ix_model.specs.State.{Catalog, index_name, fresh_index, index_in, slots_in}
use Rattle.ix_model.specs.Step.{filled, put_event}
use Rattle.ix_model.specs.Sums.{IsStandingOf, IsLiveOf, AreSoundFrom}
use Rattle.ix_model.proofs.Ledgers.{sound_or_fresh}
use Rattle.ix_model.proofs.Named.{by_test, bytes_same, find_change_or_insert}
use Rattle.ix_model.proofs.Placing.{In}
use Rattle.ix_model.proofs.Stepping.{AllSound}
use Rattle.ix_catalog.specs.Dealing.{behind, piece}
use Rattle.ix_catalog.specs.Lists.{find, update, AreAscending}
use Rattle.ix_model.specs.Contents.{Filed, filed_by, filed_slot, is_meta_area, contents_of}
use Rattle.ix_model.proofs.Filing.{IsFiled, number_below, one_bucket, bytes_there, none_yet, says_less}
use Rattle.ix_model.proofs.Pieces.{it_has, other_has}
use Rattle.ix_model.proofs.Putting.{sound_from_start, open_at_home, rolled_filed, filled_filed, PutsInto, PutsBehind, puts}

true_false : true ≡ false → ⊥
true_false e = cc

none_some : {X : Type 0} {x : X} → None ≡ Some x → ⊥
none_some e = cc

some_same : {X : Type 0} {x y : X} → Some x ≡ Some y → x ≡ y
some_same e = cc

-- ---- slots that change

-- what stands at a place once the one at another has changed
pub updated_at : {X : Type 0} (k j : ℕ) (f : X → X) (xs : List X) (y : X) → slice_get (update k f xs) j ≡ Some y →
    (x : X) × ((slice_get xs j ≡ Some x) × (((k ≡ j) × (y ≡ f x)) ⊎ ((k ≡ j → ⊥) × (y ≡ x))))
updated_at k j f [] y e = absurd (none_some e)
updated_at zero zero f (x ∷ xs) y e = (x, (refl, inl (refl, sym (some_same e))))
updated_at zero (suc j) f (x ∷ xs) y e = (y, (e, inr (λ q. omega (arith, q), refl)))
updated_at (suc k) zero f (x ∷ xs) y e = (x, (refl, inr (λ q. omega (arith, q), sym (some_same e))))
updated_at {X = X} (suc k) (suc j) f (x ∷ xs) y e = by (updated_at k j f xs y e)
  where
    by : (z : X) × ((slice_get xs j ≡ Some z) × (((k ≡ j) × (y ≡ f z)) ⊎ ((k ≡ j → ⊥) × (y ≡ z)))) →
        (z : X) × ((slice_get xs j ≡ Some z) × (((suc k ≡ suc j) × (y ≡ f z)) ⊎ ((suc k ≡ suc j → ⊥) × (y ≡ z))))
    by (z, (p, inl (q, r))) = (z, (p, inl (ap suc q, r)))
    by (z, (p, inr (q, r))) = (z, (p, inr (λ n. q (omega (arith, n)), r)))

pushed_at : {X : Type 0} (j : ℕ) (xs : List X) (y z : X) → slice_get (xs ++ y ∷ []) j ≡ Some z → (slice_get xs j ≡ Some z) ⊎ (y ≡ z)
pushed_at zero [] y z e = inr (some_same e)
pushed_at (suc j) [] y z e = absurd (none_some e)
pushed_at zero (x ∷ xs) y z e = inl e
pushed_at (suc j) (x ∷ xs) y z e = pushed_at j xs y z e

rolled_at : (o : Option ℕ) (j : ℕ) (slots : List Slot) (y : Slot) → slice_get (machine.roll o slots) j ≡ Some y →
    (x : Slot) × ((slice_get slots j ≡ Some x) × (filed_slot y ≡ filed_slot x))
rolled_at None j slots y e = (y, (e, refl))
rolled_at (Some k) j slots y e = by (updated_at k j rolled_slot slots y e)
  where
    by : (x : Slot) × ((slice_get slots j ≡ Some x) × (((k ≡ j) × (y ≡ rolled_slot x)) ⊎ ((k ≡ j → ⊥) × (y ≡ x)))) →
        (x : Slot) × ((slice_get slots j ≡ Some x) × (filed_slot y ≡ filed_slot x))
    by (x, (p, inl (q, r))) = (x, (p, ap filed_slot r ∙ rolled_filed x))
    by (x, (p, inr (q, r))) = (x, (p, ap filed_slot r))

only_one : (f g : Filed) (fs : List Filed) → fs ≡ g ∷ [] → In f fs → g ≡ f
only_one f g fs e h = by (subst (In f) e h)
  where
    by : (g ≡ f) ⊎ ⊥ → g ≡ f
    by (inl q) = q
    by (inr b) = absurd b

-- ---- the buckets of an index once an event is put in

abbrev slots_by : List Kept → ℤ → Catalog → Event → List ℕ → List ℕ → Bool → List Slot
slots_by force moment s event name other b =
    (unwrap_or (if b then Some (filled force moment s.next_file (s.counts.placed + 1) event (index_in s.indexes name)) else find index_name
    other s.indexes) (fresh_index other)).slots

slots_put : (force : List Kept) (moment : ℤ) (s : Catalog) (event : Event) (name other : List ℕ) → bytes_eq name other ≡ true →
    slots_in (put_event force moment s event name).indexes other
    ≡ machine.placed (limits force (index_in s.indexes name).name) s.next_file event (s.counts.placed + 1) moment (slots_in s.indexes name)
slots_put force moment s event name other t =
    ap (λ (o : Option Index). (unwrap_or o (fresh_index other)).slots)
    (find_change_or_insert index_name name other (filled force moment s.next_file (s.counts.placed + 1) event) (fresh_index name)
    (λ i. refl) refl s.indexes)
    ∙ ap (slots_by force moment s event name other) t

slots_kept : (force : List Kept) (moment : ℤ) (s : Catalog) (event : Event) (name other : List ℕ) → bytes_eq name other ≡ false →
    slots_in (put_event force moment s event name).indexes other ≡ slots_in s.indexes other
slots_kept force moment s event name other t =
    ap (λ (o : Option Index). (unwrap_or o (fresh_index other)).slots)
    (find_change_or_insert index_name name other (filled force moment s.next_file (s.counts.placed + 1) event) (fresh_index name)
    (λ i. refl) refl s.indexes)
    ∙ ap (slots_by force moment s event name other) t

-- ---- one event

-- the piece stands behind what its file has, and leads to what the files then begin with
pub record IsPut (old new : Catalog) (p : Append) : Type 0 where
  pub fit : IsFit (contents_of old) p
  pub lead : Forgets (with_piece p (contents_of old)) (contents_of new)

not_there : (file : File) (n : ℕ) → (file.number ≡ n → ⊥) → is_same file (home n) ≡ false
not_there file n d = by_test (is_same file (home n)) (λ t. absurd (d (ap (λ (x : File). x.number) (same_file file (home n) t)))) (λ t. t)

-- a file of another number has what it had
stays : (c : Contents) (p : Append) (file : File) → (file.number ≡ p.number → ⊥) → with_piece p c file ≡ c file
stays c p file d = other_has (home p.number) (Some (filling c (home p.number) ++ p.bytes)) c file (not_there file p.number d)

records_more : (events : List Event) (event : Event) → records (events ++ event ∷ []) ≡ records events ++ event_bytes event
records_more events event =
    flat_map-append event_bytes events (event ∷ []) ∙ ap (λ (l : List ℕ). records events ++ l) (append-nil (event_bytes event))

-- into a bucket that takes events
module _ (force : List Kept) (moment : ℤ) (s : Catalog) (event : Event) (name : List ℕ) (sound : AllSound s) (apart : AreApart s) where
  abbrev bound : Limits
  bound = limits force (index_in s.indexes name).name

  abbrev slots : List Slot
  slots = slots_in s.indexes name

  abbrev new : Catalog
  new = put_event force moment s event name

  slots_sound : AreSoundFrom (index_in s.indexes name).name 0 slots
  slots_sound = sound_or_fresh name s.indexes (find index_name name s.indexes) sound refl

  module _ (g : PutsInto bound s.next_file event (s.counts.placed + 1) moment slots) where
    abbrev p : Append
    p = behind event (Some g.bucket) s.next_file

    abbrev old : Filed
    old = record { file = g.bucket.file; events = g.slot.events }

    live_is : IsLiveOf g.place g.slot.events g.bucket
    live_is = subst (IsStandingOf (index_in s.indexes name).name g.place g.slot.events) g.stands
        (sound_from_start (index_in s.indexes name).name g.place slots g.slot slots_sound g.found)

    old_there : IsFiled s old
    old_there = record {
      name = name;
      id = g.place;
      slot = g.slot;
      at = g.found;
      has = subst (λ x. In old (filed_by g.slot.events x)) (sym g.stands) (inl refl);
    }

    at_home : g.bucket.file ≡ home g.bucket.file.number
    at_home = ap (λ (a : Area). record { area = a; number = g.bucket.file.number })
        (open_at_home g.bucket.state g.bucket.file.area g.takes live_is.file_is)

    had : contents_of s (home g.bucket.file.number) ≡ Some (records g.slot.events)
    had = ap (contents_of s) (sym at_home) ∙ bytes_there s old apart old_there (ap (λ (f : File). is_meta_area f.area) at_home)

    into_fit : IsFit (contents_of s) p
    into_fit = record { bytes = records g.slot.events; there = had; place = live_is.is_of.sums.bytes_are }

    next_same : new.next_file ≡ s.next_file
    next_same = ap (λ (b : Bool). if b then s.next_file + 1 else s.next_file) g.none_new

    untouched : (f : Filed) → IsFiled s f → (f.file.number ≡ g.bucket.file.number → ⊥) → is_meta_area f.file.area ≡ false →
        with_piece p (contents_of s) f.file ≡ Some (records f.events)
    untouched f h d m = stays (contents_of s) p f.file d ∙ bytes_there s f apart h m

    it_grew : (f : Filed) → f ≡ record { file = g.bucket.file; events = g.slot.events ++ event ∷ [] } →
        with_piece p (contents_of s) f.file ≡ Some (records f.events)
    it_grew f e =
        ap (λ (x : Filed). with_piece p (contents_of s) x.file) e
        ∙ ap (with_piece p (contents_of s)) at_home
        ∙ it_has (home g.bucket.file.number) (Some (filling (contents_of s) (home g.bucket.file.number) ++ event_bytes event))
        (contents_of s)
        ∙ ap (λ (o : Option (List ℕ)). Some (content o ++ event_bytes event)) had
        ∙ ap (λ (l : List ℕ). Some l) (sym (records_more g.slot.events event))
        ∙ ap (λ (x : Filed). Some (records x.events)) (sym e)

    into_each : (f : Filed) → IsFiled new f → is_meta_area f.file.area ≡ false →
        with_piece p (contents_of s) f.file ≡ Some (records f.events)
    unfolding old_there
    into_each f h m =
        by_test (bytes_eq name h.name)
        (λ t. here (updated_at g.place h.id (filled_slot bound event (s.counts.placed + 1) moment) slots h.slot
        (ap (λ (l : List Slot). slice_get l h.id) (sym (slots_put force moment s event name h.name t ∙ g.comes_to)) ∙ h.at)) t)
        (λ t. (let k : IsFiled s f = record {
          name = h.name;
          id = h.id;
          slot = h.slot;
          at = ap (λ (l : List Slot). slice_get l h.id) (sym (slots_kept force moment s event name h.name t)) ∙ h.at;
          has = h.has;
        } in
        untouched f k (λ e. true_false (sym (bytes_same name h.name (sym (one_bucket s f old apart k old_there e).names)) ∙ t)) m))
      where
        here : (x : Slot) × ((slice_get slots h.id ≡ Some x)
            × (((g.place ≡ h.id) × (h.slot ≡ filled_slot bound event (s.counts.placed + 1) moment x))
            ⊎ ((g.place ≡ h.id → ⊥) × (h.slot ≡ x)))) →
            bytes_eq name h.name ≡ true → with_piece p (contents_of s) f.file ≡ Some (records f.events)
        here (x, (q, inl (e, r))) t =
            let same : g.slot ≡ x = some_same (sym g.found ∙ ap (slice_get slots) e ∙ q) in
            it_grew f (sym (only_one f (record { file = g.bucket.file; events = g.slot.events ++ event ∷ [] }) (filed_slot h.slot)
            (ap filed_slot (r ∙ ap (filled_slot bound event (s.counts.placed + 1) moment) (sym same))
            ∙ filled_filed bound event (s.counts.placed + 1) moment g.slot g.bucket g.stands) h.has))
        here (x, (q, inr (d, r))) t =
            let k : IsFiled s f = record {
              name = name;
              id = h.id;
              slot = x;
              at = q;
              has = subst (λ (y : Slot). In f (filed_slot y)) r h.has;
            } in
            untouched f k (λ e. d (sym (one_bucket s f old apart k old_there e).ids)) m

    into_put : AreAscending index_name new.indexes → IsPut s new p
    into_put l =
        let below = number_below s old apart old_there in
        record {
          fit = into_fit;
          lead = says_less (with_piece p (contents_of s)) new l
              (λ file m later. (let from : s.next_file ≤ file.number = subst (λ (n : ℕ). n ≤ file.number) next_same later in
              stays (contents_of s) p file (λ e. omega (arith, e, from, below)) ∙ none_yet s file m from))
              into_each;
        }

  module _ (g : PutsBehind bound s.next_file event (s.counts.placed + 1) moment slots) where
    abbrev q : Append
    q = behind event None s.next_file

    nothing : contents_of s (home s.next_file) ≡ Some []
    nothing = none_yet s (home s.next_file) refl (omega arith)

    next_more : new.next_file ≡ s.next_file + 1
    next_more = ap (λ (b : Bool). if b then s.next_file + 1 else s.next_file) g.one_new

    kept : (f : Filed) → IsFiled s f → is_meta_area f.file.area ≡ false → with_piece q (contents_of s) f.file ≡ Some (records f.events)
    kept f h m = let below = number_below s f apart h in stays (contents_of s) q f.file (λ e. omega (arith, e, below))
        ∙ bytes_there s f apart h m

    behind_each : (f : Filed) → IsFiled new f → is_meta_area f.file.area ≡ false →
        with_piece q (contents_of s) f.file ≡ Some (records f.events)
    behind_each f h m =
        by_test (bytes_eq name h.name)
        (λ t. here (pushed_at h.id (machine.roll g.rolls slots) g.made h.slot
        (ap (λ (l : List Slot). slice_get l h.id) (sym (slots_put force moment s event name h.name t ∙ g.comes_to)) ∙ h.at)))
        (λ t. kept f (record {
          name = h.name;
          id = h.id;
          slot = h.slot;
          at = ap (λ (l : List Slot). slice_get l h.id) (sym (slots_kept force moment s event name h.name t)) ∙ h.at;
          has = h.has;
        }) m)
      where
        here : (slice_get (machine.roll g.rolls slots) h.id ≡ Some h.slot) ⊎ (g.made ≡ h.slot) →
            with_piece q (contents_of s) f.file ≡ Some (records f.events)
        here (inl e) =
            let r = rolled_at g.rolls h.id slots h.slot e in
            kept f (record { name = name; id = h.id; slot = r.0; at = r.1.0; has = subst (In f) r.1.1 h.has }) m
        here (inr e) =
            let k = only_one f (record { file = home s.next_file; events = event ∷ [] }) (filed_slot h.slot) (ap filed_slot (sym e)
            ∙ g.filed) h.has in
            ap (λ (x : Filed). with_piece q (contents_of s) x.file) (sym k)
            ∙ it_has (home s.next_file) (Some (filling (contents_of s) (home s.next_file) ++ event_bytes event)) (contents_of s)
            ∙ ap (λ (o : Option (List ℕ)). Some (content o ++ event_bytes event)) nothing
            ∙ ap (λ (l : List ℕ). Some l) (sym (append-nil (event_bytes event)))
            ∙ ap (λ (x : Filed). Some (records x.events)) k

    behind_put : AreAscending index_name new.indexes → IsPut s new q
    behind_put l = record {
      fit = record { bytes = []; there = nothing; place = refl };
      lead = says_less (with_piece q (contents_of s)) new l
          (λ file m later. (let from : s.next_file + 1 ≤ file.number = subst (λ (n : ℕ). n ≤ file.number) next_more later in
          stays (contents_of s) q file (λ e. omega (arith, e, from)) ∙ none_yet s file m (omega (arith, from))))
          behind_each;
    }

  pub event_put : AreAscending index_name new.indexes → IsPut s new (piece bound s.next_file event (buckets slots))
  event_put l = by (puts (index_in s.indexes name).name bound s.next_file event (s.counts.placed + 1) moment slots slots_sound)
    where
      by : PutsInto bound s.next_file event (s.counts.placed + 1) moment slots
          ⊎ PutsBehind bound s.next_file event (s.counts.placed + 1) moment slots →
          IsPut s new (piece bound s.next_file event (buckets slots))
      by (inl g) = subst (IsPut s new) (sym g.piece_is) (into_put g l)
      by (inr g) = subst (IsPut s new) (sym g.piece_is) (behind_put g l)
