-- Files that are done with begin with nothing, and no bucket comes into them again.
use Rattle.std.proofs.Common.{◌≡◌, ◌≢◌, ◌≤◌, ◌<◌, ◌+◌, ℕ, Bool, true, false, List, [], ◌∷◌, ◌++◌, refl, sym, ap, ◌∙◌, subst, arith}
use Rattle.std.proofs.lemmas.Bool.Decides.{nat_tests}
use Rattle.std.specs.Prelude.{Option, Some, None, if◌then◌else◌, nat_le, ◌==◌}
use Rattle.std.specs.List.{sum_by, flat_map}
use Rattle.std.proofs.lemmas.List.Sums.{sum_by-cons, sum_by-append}
use Rattle.ix_base.specs.declared.events.Event.{Event}
use Rattle.ix_base.specs.declared.files.Area.{Area}
use Rattle.ix_base.specs.declared.files.Area.TheVariants as areas
use Rattle.ix_base.specs.declared.files.File.{File}
use Rattle.ix_disk.specs.Files.{is_same, same_file}
use Rattle.ix_items.specs.declared.items.Bucket.{Bucket}
use Rattle.ix_model.specs.Buckets.{Standing, live, frozen, Slot, Index}
use Rattle.ix_model.specs.Files.{once_if, archive_uses, bucket_uses, standing_uses, slot_uses, index_uses, uses, Renews}
use Rattle.ix_model.specs.Given.{Chooser}
use Rattle.ix_model.specs.State.{State, Catalog, empty}
use Rattle.ix_model.specs.Step.{state_after}
use Rattle.ix_model.specs.declared.commands.TimedCommand.{TimedCommand}
use Rattle.ix_model.proofs.Following.{after_more}
use Rattle.ix_model.proofs.Freezing.{flat_sum}
use Rattle.ix_model.proofs.Named.{by_test}
use Rattle.ix_model.proofs.Renewing.{renews_after}
use Rattle.ix_model.proofs.Stepping.{sound_after}
use Rattle.ix_model.specs.Contents.{Filed, archived, in_bucket, filed_by, filed_slot, filed_index, filed, bytes_of, is_meta_area}
use Rattle.ix_model.specs.Contents.{contents_of}
use Rattle.ix_model.specs.Done.{IsDone}

-- how often a number is that of a file among these
abbrev of_number : ℕ → Filed → ℕ
of_number n f = once_if n f.file.number

-- files of other numbers are other files
none_of : (file : File) (fs : List Filed) → sum_by (of_number file.number) fs ≡ 0 → bytes_of fs file ≡ None
none_of file [] e = refl
none_of file (f ∷ fs) e =
    let s = sum_by-cons (of_number file.number) f fs in
    by_test (is_same file f.file)
    (λ t. absurd (let one = counted t in omega (arith, s, e, one)))
    (λ t. rw t (none_of file fs (omega (arith, s, e))))
  where
    counted : is_same file f.file ≡ true → once_if file.number f.file.number ≡ 1
    counted t = once_self (same_file file f.file t)
      where
        once_self : file ≡ f.file → once_if file.number f.file.number ≡ 1
        once_self e = subst (λ (g : File). once_if file.number g.number ≡ 1) e (self file.number)
          where
            self : (n : ℕ) → once_if n n ≡ 1
            self n = grind (arith, nat_tests)

one_more : (n : ℕ) (f : Filed) → sum_by (of_number n) (f ∷ []) ≡ once_if n f.file.number
one_more n f = let s = sum_by-cons (of_number n) f [] in omega (arith, s)

archived_uses : (n : ℕ) (events : List Event) (archive : Option ℕ) → sum_by (of_number n) (archived events archive) ≡ archive_uses n archive
archived_uses n events None = refl
archived_uses n events (Some number) = one_more n (record { file = record { area = areas.Frozen; number = number }; events = events })

bucket_same : (n : ℕ) (events : List Event) (b : Option Bucket) → sum_by (of_number n) (in_bucket events b) ≡ bucket_uses n b
bucket_same n events None = refl
bucket_same n events (Some b) = one_more n (record { file = b.file; events = events })

standing_same : (n : ℕ) (events : List Event) (standing : Standing) →
    sum_by (of_number n) (filed_by events standing) ≡ standing_uses n standing
standing_same n events (live b) = bucket_same n events (Some b)
standing_same n events (frozen e other) =
    let a = sum_by-append (of_number n) (archived events e.archive) (in_bucket events other) in
    let b = archived_uses n events e.archive in
    let c = bucket_same n events other in
    omega (arith, a, b, c)

same_sum : {X : Type 0} (f g : X → ℕ) → ((x : X) → f x ≡ g x) → (xs : List X) → sum_by f xs ≡ sum_by g xs
same_sum f g e [] = refl
same_sum f g e (x ∷ xs) =
    let a = sum_by-cons f x xs in
    let b = sum_by-cons g x xs in
    let c = e x in
    let d = same_sum f g e xs in
    omega (arith, a, b, c, d)

index_same : (n : ℕ) (i : Index) → sum_by (of_number n) (filed_index i) ≡ index_uses n i
index_same n i = flat_sum (of_number n) filed_slot i.slots
    ∙ same_sum (λ (s : Slot). sum_by (of_number n) (filed_slot s)) (slot_uses n) (λ s. standing_same n s.events s.standing) i.slots

-- the files of buckets and archives are those that are counted
filed_same : (n : ℕ) (s : Catalog) → sum_by (of_number n) (filed s) ≡ uses n s
filed_same n s = flat_sum (of_number n) filed_index s.indexes
    ∙ same_sum (λ (i : Index). sum_by (of_number n) (filed_index i)) (index_uses n) (index_same n) s.indexes

not_meta : (area : Area) → area ≢ areas.Meta → is_meta_area area ≡ false
not_meta areas.Meta d = absurd (d refl)
not_meta areas.Home d = refl
not_meta areas.Cold d = refl
not_meta areas.Frozen d = refl
not_meta areas.Thawed d = refl

pub done_has_none : (s : Catalog) (file : File) → IsDone s file → contents_of s file ≡ None
done_has_none s file h =
    let a = not_meta file.area h.apart in
    let b : nat_le s.next_file file.number ≡ false = before h.taken in
    rw (a, b) (none_of file (filed s) (filed_same file.number s ∙ h.unused))
  where
    before : file.number < s.next_file → nat_le s.next_file file.number ≡ false
    before l = grind (arith, nat_tests)

pub done_stays : (choose : Chooser) (before later : List TimedCommand) (file : File) → IsDone (state_after choose before).catalog file →
    IsDone (state_after choose (before ++ later)).catalog file
done_stays choose before later file h =
    subst (λ (m : State). IsDone m.catalog file) (sym (after_more choose empty before later))
    (then_done (renews_after choose (state_after choose before) later (sound_after choose before)))
  where
    then_done : {s : Catalog} → Renews (state_after choose before).catalog s → IsDone s file
    then_done r = record {
      apart = h.apart;
      taken = (let a = h.taken in let b = r.later in omega (arith, a, b));
      unused = (let a = r.old_ones file.number h.taken in let b = h.unused in omega (arith, a, b));
    }
