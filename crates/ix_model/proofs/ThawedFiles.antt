-- The copy of an archive leads to what the files then begin with.
use Rattle.std.proofs.Common.{◌≡◌, ◌<◌, ◌≤◌, ℕ, ◌+◌, Bool, true, false, List, [], ◌∷◌, ◌++◌, length, refl, sym, ap, ◌∙◌, arith, subst, inl}
use Rattle.std.proofs.Common.{inr}
use Rattle.std.specs.Prelude.{Option, None, Some, ◌⊎◌, if◌then◌else◌, slice_get, unwrap_or, bytes_eq}
use Rattle.std.specs.Option.{option_map}
use Rattle.ix_base.specs.declared.events.Event.{Event}
use Rattle.ix_base.specs.declared.files.Area.TheVariants as areas
use Rattle.ix_bucket.specs.Record.{records}
use Rattle.ix_items.specs.declared.items.Bucket.{Bucket}
use Rattle.ix_items.specs.declared.items.Entry.{Entry}
use Rattle.ix_commit.specs.Contents.{Contents}
use Rattle.ix_commit.specs.Drafts.{with_copies}
use Rattle.ix_commit.specs.Copies.{target}
use Rattle.ix_commit.specs.declared.file_copy.FileCopy.{FileCopy}
use Rattle.ix_model.specs.Buckets.{Standing, live, frozen, Slot, Index, entered}
use Rattle.ix_model.specs.Files.{AreApart}
use Rattle.ix_model.specs.Keeping.{thawing, thawed_by, thawed_slot}
use Rattle.ix_model.specs.Keeping as kept
use Rattle.ix_model.specs.State.{Catalog, index_name, fresh_index, slots_in}
use Rattle.ix_model.specs.Step.{thawed_index, can_thaw, thaws, thaw}
use Rattle.ix_model.specs.Sums.{IsStandingOf, IsSound}
use Rattle.ix_model.proofs.Named.{by_test, same_bytes, find_change, all_found}
use Rattle.ix_model.proofs.Placing.{In}
use Rattle.ix_model.proofs.Stepping.{AllSound}
use Rattle.ix_catalog.specs.Lists.{find, update, AreAscending}
use Rattle.ix_catalog.specs.Turning.{thaw_copy}
use Rattle.ix_model.specs.Contents.{Filed, archived, filed_by, filed_slot, is_meta_area, contents_of}
use Rattle.ix_model.specs.OnDisk.{HasNoneFrom, IsThawed}
use Rattle.ix_model.proofs.Copying.{AreBetween, IsWhole, fit_copies, not_between, copied_has}
use Rattle.ix_model.proofs.FiledDeals.{updated_at}
use Rattle.ix_model.proofs.Filing.{IsFiled, slot_found, number_below, bytes_there, none_yet, says_less}
use Rattle.ix_model.proofs.Putting.{sound_from_start}

none_some : {X : Type 0} {x : X} → None ≡ Some x → ⊥
none_some e = cc

some_same : {X : Type 0} {x y : X} → Some x ≡ Some y → x ≡ y
some_same e = cc

false_true : false ≡ true → ⊥
false_true e = cc

-- what can be brought back is frozen and not thawed
thawable : (e : Entry) (standing : Standing) → entered standing ≡ Some e → kept.can_thaw standing ≡ true → standing ≡ frozen e None
thawable e (live b) c t = absurd (none_some c)
thawable e (frozen f other) c t = by f.archive other t ∙ ap (λ (x : Entry). frozen x None) (some_same c)
  where
    by : (archive : Option ℕ) (o : Option Bucket) → kept.can_thaw_by archive o ≡ true → frozen f o ≡ frozen f None
    by None o u = absurd (false_true u)
    by (Some a) (Some b) u = absurd (false_true u)
    by (Some a) None u = refl

abbrev from_archive : ℕ → List Event → Filed
from_archive archive events = record { file = record { area = areas.Frozen; number = archive }; events = events }

abbrev to_thawed : ℕ → List Event → Filed
to_thawed file events = record { file = record { area = areas.Thawed; number = file }; events = events }

filed_thawed : (file archive : ℕ) (e : Entry) (s : Slot) → s.standing ≡ frozen e None → e.archive ≡ Some archive →
    filed_slot (thawed_slot file s) ≡ from_archive archive s.events ∷ to_thawed file s.events ∷ []
filed_thawed file archive e s k a =
    ap (λ (x : Standing). filed_by s.events (thawing file x)) k
    ∙ ap (λ (o : Option ℕ). filed_by s.events (thawed_by e o file None)) a
    ∙ ap (λ (o : Option ℕ). archived s.events o ++ to_thawed file s.events ∷ []) a

filed_frozen : (archive : ℕ) (e : Entry) (s : Slot) → s.standing ≡ frozen e None → e.archive ≡ Some archive →
    filed_slot s ≡ from_archive archive s.events ∷ []
filed_frozen archive e s k a = ap (filed_by s.events) k ∙ ap (λ (o : Option ℕ). archived s.events o ++ []) a

-- ---- the buckets of an index behind a thaw

thawed_by_name : (id file : ℕ) (name : List ℕ) (o : Option Index) →
    (unwrap_or (option_map (thawed_index id file) o) (fresh_index name)).slots ≡ update id (thawed_slot file)
    (unwrap_or o (fresh_index name)).slots
thawed_by_name id file name None = refl
thawed_by_name id file name (Some i) = refl

abbrev slots_by : ℕ → List Index → ℕ → List ℕ → Bool → List Slot
slots_by id is file name b = (unwrap_or (if b then option_map (thawed_index id file) (find index_name name is) else find index_name name is)
    (fresh_index name)).slots

slots_change : (index name : List ℕ) (id : ℕ) (s : Catalog) →
    slots_in (thaw index id s).indexes name ≡ slots_by id s.indexes s.next_file name (bytes_eq index name)
slots_change index name id s =
    ap (λ (o : Option Index). (unwrap_or o (fresh_index name)).slots)
    (find_change index_name index name (thawed_index id s.next_file) (λ i. refl) s.indexes)

slots_thawed : (index name : List ℕ) (id : ℕ) (s : Catalog) → bytes_eq index name ≡ true →
    slots_in (thaw index id s).indexes name ≡ update id (thawed_slot s.next_file) (slots_in s.indexes name)
slots_thawed index name id s t =
    slots_change index name id s ∙ ap (slots_by id s.indexes s.next_file name) t
    ∙ thawed_by_name id s.next_file name (find index_name name s.indexes)

slots_kept : (index name : List ℕ) (id : ℕ) (s : Catalog) → bytes_eq index name ≡ false →
    slots_in (thaw index id s).indexes name ≡ slots_in s.indexes name
slots_kept index name id s t = slots_change index name id s ∙ ap (slots_by id s.indexes s.next_file name) t

-- ---- the copy

module _ (s : Catalog) (index : List ℕ) (id : ℕ) (slot : Slot) (e : Entry) (archive : ℕ) (sound : AllSound s) (apart : AreApart s)
    (at : slice_get (slots_in s.indexes index) id ≡ Some slot) (stands : slot.standing ≡ frozen e None) (a : e.archive ≡ Some archive) where
  abbrev copy : FileCopy
  copy = thaw_copy e archive s.next_file

  was_there : IsFiled s (from_archive archive slot.events)
  was_there = record {
    name = index;
    id = id;
    slot = slot;
    at = at;
    has = subst (In (from_archive archive slot.events)) (sym (filed_frozen archive e slot stands a)) (inl refl);
  }

  had : contents_of s copy.from ≡ Some (records slot.events)
  had = bytes_there s (from_archive archive slot.events) apart was_there refl

  len_is : copy.len ≡ length (records slot.events)
  len_is =
      let found = slot_found s.indexes index id slot at in
      let i_sound : IsSound found.0 = all_found IsSound index_name index found.0 s.indexes sound found.1.0 in
      let both : IsStandingOf found.0.name id slot.events (frozen e None) =
      subst (IsStandingOf found.0.name id slot.events) stands (sound_from_start found.0.name id found.0.slots slot i_sound found.1.1) in
      both.0.sums.bytes_are

  before : archive < s.next_file
  before = number_below s (from_archive archive slot.events) apart was_there

  whole : IsWhole s.next_file (contents_of s) copy
  whole = record { before = before; new = omega arith; bytes = records slot.events; there = had; len_is = len_is }

  each_whole : (x : FileCopy) → In x (copy ∷ []) → IsWhole s.next_file (contents_of s) x
  each_whole x (inl q) = subst (IsWhole s.next_file (contents_of s)) q whole
  each_whole x (inr q) = absurd q

  between : AreBetween s.next_file (s.next_file + 1) (copy ∷ [])
  between = (omega arith, omega arith)

  abbrev copied : Contents
  copied = with_copies (copy ∷ []) (contents_of s)

  kept_filed : (f : Filed) → IsFiled s f → is_meta_area f.file.area ≡ false → copied f.file ≡ Some (records f.events)
  kept_filed f h m =
      not_between s.next_file (s.next_file + 1) (copy ∷ []) (contents_of s) f.file between (inl (number_below s f apart h))
      ∙ bytes_there s f apart h m

  came : copied (target copy) ≡ Some (records slot.events)
  came = copied_has s.next_file s.next_file (s.next_file + 1) (contents_of s) (contents_of s) copy (copy
      ∷ []) between (λ file l. refl) each_whole (inl refl)
      (records slot.events) had len_is before

  each : (f : Filed) → IsFiled (thaw index id s) f → is_meta_area f.file.area ≡ false → copied f.file ≡ Some (records f.events)
  each f h m =
      by_test (bytes_eq index h.name)
      (λ t. here t (updated_at id h.id (thawed_slot s.next_file) (slots_in s.indexes h.name) h.slot
      (ap (λ (l : List Slot). slice_get l h.id) (sym (slots_thawed index h.name id s t)) ∙ h.at)))
      (λ t. kept_filed f (record {
        name = h.name;
        id = h.id;
        slot = h.slot;
        at = ap (λ (l : List Slot). slice_get l h.id) (sym (slots_kept index h.name id s t)) ∙ h.at;
        has = h.has;
      }) m)
    where
      one_of : (from_archive archive slot.events ≡ f) ⊎ ((to_thawed s.next_file slot.events ≡ f) ⊎ ⊥) →
          copied f.file ≡ Some (records f.events)
      one_of (inl q) = kept_filed f (subst (IsFiled s) q was_there) m
      one_of (inr (inl q)) = ap (λ (x : Filed). copied x.file) (sym q) ∙ came ∙ ap (λ (x : Filed). Some (records x.events)) q
      one_of (inr (inr q)) = absurd q

      here : bytes_eq index h.name ≡ true → (x : Slot) × ((slice_get (slots_in s.indexes h.name) h.id ≡ Some x)
          × (((id ≡ h.id) × (h.slot ≡ thawed_slot s.next_file x)) ⊎ ((id ≡ h.id → ⊥) × (h.slot ≡ x)))) →
          copied f.file ≡ Some (records f.events)
      here t (x, (p, inr (d, r))) =
          kept_filed f (record { name = h.name; id = h.id; slot = x; at = p; has = subst (λ (y : Slot). In f (filed_slot y)) r h.has }) m
      here t (x, (p, inl (q, r))) =
          let same : x ≡ slot = some_same (sym p ∙ ap (slice_get (slots_in s.indexes h.name)) (sym q)
          ∙ ap (λ (n : List ℕ). slice_get (slots_in s.indexes n) id) (sym (same_bytes index h.name t)) ∙ at) in
          one_of (subst (In f) (ap filed_slot (r ∙ ap (thawed_slot s.next_file) same)
          ∙ filed_thawed s.next_file archive e slot stands a) h.has)

  pub copy_leads : (old : Contents) → HasNoneFrom s.next_file old → AreAscending index_name (thaw index id s).indexes →
      thaws index id s ≡ true → IsThawed s index id e archive old
  copy_leads old n l t = record {
    fit = fit_copies s.next_file old (contents_of s) (contents_of s) (copy ∷ []) n (λ file b. refl) each_whole;
    lead = says_less copied (thaw index id s) l
        (λ file m later. (let more : s.next_file + 1 ≤ file.number = subst
        (λ (b : Bool). (if b then s.next_file + 1 else s.next_file) ≤ file.number) t later in
        not_between s.next_file (s.next_file + 1) (copy ∷ []) (contents_of s) file between (inr more)
        ∙ none_yet s file m (omega (arith, more))))
        each;
  }

pub thaw_copied : (s : Catalog) (index : List ℕ) (id : ℕ) (slot : Slot) (e : Entry) (archive : ℕ) (old : Contents) → AllSound s →
    AreApart s →
    AreAscending index_name (thaw index id s).indexes → slice_get (slots_in s.indexes index) id ≡ Some slot →
    entered slot.standing ≡ Some e → e.archive ≡ Some archive →
    thaws index id s ≡ true → HasNoneFrom s.next_file old → IsThawed s index id e archive old
thaw_copied s index id slot e archive old sound apart l at c a t n =
    copy_leads s index id slot e archive sound apart at (thawable e slot.standing c (ap can_thaw (sym at) ∙ t)) a old n l t
