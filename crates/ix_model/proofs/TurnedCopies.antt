-- The copies of a turn, and the files that are done with, bucket by bucket.
use Rattle.std.proofs.Common.{◌≡◌, ℕ, suc, ◌+◌, Bool, true, false, List, [], ◌∷◌, ◌++◌, refl, sym, ap, ◌∙◌, arith, subst, inl, inr}
use Rattle.std.specs.Prelude.{Option, Some, None, ◌⊎◌, if◌then◌else◌, option_to_list}
use Rattle.std.specs.List.{flat_map}
use Rattle.std.proofs.lemmas.Grind.{flat_map-append}
use Rattle.std.proofs.lemmas.List.Sums.{sum_by-cons}
use Rattle.ix_base.specs.declared.events.Event.{Event}
use Rattle.ix_base.specs.declared.files.File.{File}
use Rattle.ix_items.specs.declared.items.Bucket.{Bucket}
use Rattle.ix_items.specs.declared.items.Rule.{Rule}
use Rattle.ix_commit.specs.Copies.{target}
use Rattle.ix_commit.specs.declared.file_copy.FileCopy.{FileCopy}
use Rattle.ix_commit.specs.declared.file_copy.CopyTarget.TheVariants as places
use Rattle.ix_model.specs.Buckets.{Standing, live, frozen, Slot, listed, buckets}
use Rattle.ix_model.specs.Keeping.{turned_by}
use Rattle.ix_model.specs.Keeping as kept
use Rattle.ix_model.specs.Sums.{IsStandingOf, AreSoundFrom}
use Rattle.ix_model.proofs.Named.{by_test}
use Rattle.ix_model.proofs.Placing.{In}
use Rattle.ix_catalog.specs.Buckets.{Turn, is_among, rule_of, cooled}
use Rattle.ix_catalog.specs.Shelves.{is_live}
use Rattle.ix_catalog.specs.Turning.{freezes_by, cools, Numbered, numbered, copy_to, copies_by, copies, leaves_by}
use Rattle.ix_model.specs.Contents.{Filed, archived, filed_by}
use Rattle.ix_model.proofs.Copying.{AreBetween, then_between}
use Rattle.ix_model.proofs.Counting.{live_is, thawed_is}
use Rattle.ix_model.proofs.TurnedShelves.{live_rule, no_rule, first_of, numbered_more}

none_some : {X : Type 0} {x : X} → None ≡ Some x → ⊥
none_some e = cc

some_same : {X : Type 0} {x y : X} → Some x ≡ Some y → x ≡ y
some_same e = cc

abbrev copying : Turn → Numbered → List FileCopy
copying t x = copies_by t x (freezes_by t x.0)

abbrev pub slot_copies : Turn → ℕ → Standing → List FileCopy
slot_copies t file standing = flat_map (copying t) (first_of file standing)

abbrev pub slots_copies : Turn → ℕ → List Slot → List FileCopy
slots_copies t file [] = []
slots_copies t file (s ∷ slots) = slot_copies t file s.standing ++ slots_copies t (kept.file_behind t file s.standing) slots

pub copies_same : (t : Turn) (index : List ℕ) (id file : ℕ) (slots : List Slot) → AreSoundFrom index id slots →
    copies t file (buckets slots) ≡ slots_copies t file slots
copies_same t index id file [] h = refl
copies_same t index id file (s ∷ slots) h =
    let next = kept.file_behind t file s.standing in
    ap (flat_map (copying t)) (numbered_more t index id file s.events s.standing (buckets slots) h.0)
    ∙ flat_map-append (copying t) (first_of file s.standing) (numbered t next (buckets slots))
    ∙ ap (λ (xs : List FileCopy). slot_copies t file s.standing ++ xs) (copies_same t index (suc id) next slots h.1)

-- ---- the copies of one bucket

live_copies : (t : Turn) (file : ℕ) (b : Bucket) → is_live b ≡ true →
    slot_copies t file (live b) ≡ copies_by t (b, file) (rule_of t.moves.frozen b.id) ++ []
live_copies t file b e = ap (λ (o : Option Rule). copies_by t (b, file) o ++ []) (live_rule t b e)

thawed_copies : (t : Turn) (file : ℕ) (b : Bucket) → is_live b ≡ false → copying t (b, file) ++ [] ≡ []
thawed_copies t file b e = ap (λ (o : Option Rule). copies_by t (b, file) o ++ []) (no_rule t b e) ∙ rw e refl

cooling : (t : Turn) (b : Bucket) → is_live b ≡ true → cools t b ≡ is_among t.moves.cooled b.id
cooling t b e = rw e refl

one_between : (t : Turn) (file : ℕ) (b : Bucket) (o : Option Rule) → is_live b ≡ true →
    AreBetween file (if kept.takes_by t b o then file + 1 else file) (copies_by t (b, file) o ++ [])
one_between t file b None e =
    by_test (is_among t.moves.cooled b.id)
    (λ c. rw (c, e) (omega arith, omega arith))
    (λ c. rw (c, e) (omega arith))
one_between t file b (Some rule) e = by_test t.archive (λ c. rw c (omega arith, omega arith)) (λ c. rw c (omega arith))

standing_between : (t : Turn) (index : List ℕ) (id file : ℕ) (events : List Event) (standing : Standing) →
    IsStandingOf index id events standing →
    AreBetween file (kept.file_behind t file standing) (slot_copies t file standing)
standing_between t index id file events (live b) h =
    let e = live_is b h.state_is in
    subst (AreBetween file (kept.file_behind t file (live b))) (sym (live_copies t file b e))
    (one_between t file b (rule_of t.moves.frozen b.id) e)
standing_between t index id file events (frozen f None) h = omega arith
standing_between t index id file events (frozen f (Some b)) h =
    subst (AreBetween file file) (sym (thawed_copies t file b (thawed_is b h.1.state_is))) (omega arith)

taken_more : (t : Turn) (s : Slot) (slots : List Slot) (file : ℕ) →
    kept.file_behind t file s.standing + kept.files_taken t slots ≡ file + kept.files_taken t (s ∷ slots)
taken_more t s slots file =
    let a = sum_by-cons (λ (x : Slot). if kept.takes_file t x.standing then 1 else 0) s slots in
    by_test (kept.takes_file t s.standing) (λ c. (let b = by_it true c in omega (arith, a, b)))
    (λ c. (let b = by_it false c in omega (arith, a, b)))
  where
    by_it : (x : Bool) → kept.takes_file t s.standing ≡ x →
        kept.file_behind t file s.standing ≡ file + (if kept.takes_file t s.standing then 1 else 0)
    by_it true c = rw c refl
    by_it false c = rw c (omega arith)

pub slots_between : (t : Turn) (index : List ℕ) (id file : ℕ) (slots : List Slot) → AreSoundFrom index id slots →
    AreBetween file (file + kept.files_taken t slots) (slots_copies t file slots)
slots_between t index id file [] h = omega arith
slots_between t index id file (s ∷ slots) h =
    let next = kept.file_behind t file s.standing in
    subst (λ (n : ℕ). AreBetween file n (slots_copies t file (s ∷ slots))) (taken_more t s slots file)
    (then_between file next (next + kept.files_taken t slots) (slot_copies t file s.standing) (slots_copies t next slots)
    (standing_between t index id file s.events s.standing h.0) (slots_between t index (suc id) next slots h.1))

-- a copy is of a live bucket, with all its bytes, into the file that it takes
pub record IsCopyOf (t : Turn) (file : ℕ) (standing : Standing) (x : FileCopy) : Type 0 where
  pub bucket : Bucket
  pub stands : standing ≡ live bucket
  pub from_is : x.from ≡ bucket.file
  pub number_is : x.number ≡ file
  pub len_is : x.len ≡ bucket.bytes

copied_by : (t : Turn) (file : ℕ) (b : Bucket) (o : Option Rule) (x : FileCopy) → In x (copies_by t (b, file) o ++ []) →
    IsCopyOf t file (live b) x
copied_by t file b None x i = by (cools t b) i
  where
    by : (c : Bool) → In x ((if c then copy_to places.Cold (b, file) ∷ [] else []) ++ []) → IsCopyOf t file (live b) x
    by true (inl e) = record {
      bucket = b;
      stands = refl;
      from_is = ap (λ (y : FileCopy). y.from) (sym e);
      number_is = ap (λ (y : FileCopy). y.number) (sym e);
      len_is = ap (λ (y : FileCopy). y.len) (sym e);
    }
    by true (inr j) = absurd j
    by false j = absurd j
copied_by t file b (Some rule) x i = by t.archive i
  where
    by : (c : Bool) → In x ((if c then copy_to places.Frozen (b, file) ∷ [] else []) ++ []) → IsCopyOf t file (live b) x
    by true (inl e) = record {
      bucket = b;
      stands = refl;
      from_is = ap (λ (y : FileCopy). y.from) (sym e);
      number_is = ap (λ (y : FileCopy). y.number) (sym e);
      len_is = ap (λ (y : FileCopy). y.len) (sym e);
    }
    by true (inr j) = absurd j
    by false j = absurd j

pub copy_of : (t : Turn) (index : List ℕ) (id file : ℕ) (events : List Event) (standing : Standing) (x : FileCopy) →
    IsStandingOf index id events standing →
    In x (slot_copies t file standing) → IsCopyOf t file standing x
copy_of t index id file events (live b) x h i = copied_by t file b (freezes_by t b) x i
copy_of t index id file events (frozen f None) x h i = absurd i
copy_of t index id file events (frozen f (Some b)) x h i = absurd (subst (In x) (thawed_copies t file b (thawed_is b h.1.state_is)) i)

-- ---- what a bucket has in files behind a turn

-- events that were copied into the file that the bucket takes
pub record IsNew (t : Turn) (file : ℕ) (events : List Event) (standing : Standing) (f : Filed) : Type 0 where
  pub bucket : Bucket
  pub stands : standing ≡ live bucket
  pub copy : FileCopy
  pub among : In copy (slot_copies t file standing)
  pub from_is : copy.from ≡ bucket.file
  pub len_is : copy.len ≡ bucket.bytes
  pub to_is : target copy ≡ f.file
  pub events_are : f.events ≡ events

new_by : (t : Turn) (file : ℕ) (events : List Event) (b : Bucket) (f : Filed) (o : Option Rule) → is_live b ≡ true →
    rule_of t.moves.frozen b.id ≡ o →
    In f (filed_by events (turned_by t file b o)) → In f (filed_by events (live b)) ⊎ IsNew t file events (live b) f
new_by t file events b f None e r i = by_test (is_among t.moves.cooled b.id) cold warm
  where
    cold : is_among t.moves.cooled b.id ≡ true → In f (filed_by events (live b)) ⊎ IsNew t file events (live b) f
    cold c = by (rw c at i)
      where
        by : In f (record { file = (cooled file b).file; events = events } ∷ []) → In f (filed_by events (live b))
            ⊎ IsNew t file events (live b) f
        by (inl q) = inr (record {
          bucket = b;
          stands = refl;
          copy = copy_to places.Cold (b, file);
          among = subst (In (copy_to places.Cold (b, file)))
              (sym (live_copies t file b e ∙ ap (λ (o : Option Rule). copies_by t (b, file) o ++ []) r
              ∙ ap (λ (x : Bool). (if x then copy_to places.Cold (b, file) ∷ [] else []) ++ []) (cooling t b e ∙ c))) (inl refl);
          from_is = refl;
          len_is = refl;
          to_is = ap (λ (x : Filed). x.file) q;
          events_are = ap (λ (x : Filed). x.events) (sym q);
        })
        by (inr q) = absurd q

    warm : is_among t.moves.cooled b.id ≡ false → In f (filed_by events (live b)) ⊎ IsNew t file events (live b) f
    warm c = by_test (is_among t.moves.warmed b.id) (λ w. inl (rw (c, w) at i)) (λ w. inl (rw (c, w) at i))
new_by t file events b f (Some rule) e r i = by t.archive refl i
  where
    by : (x : Bool) → t.archive ≡ x → In f (archived events (if x then Some file else None) ++ []) → In f (filed_by events (live b))
        ⊎ IsNew t file events (live b) f
    by true c (inl q) = inr (record {
      bucket = b;
      stands = refl;
      copy = copy_to places.Frozen (b, file);
      among = subst (In (copy_to places.Frozen (b, file)))
          (sym (live_copies t file b e ∙ ap (λ (o : Option Rule). copies_by t (b, file) o ++ []) r
          ∙ ap (λ (x : Bool). (if x then copy_to places.Frozen (b, file) ∷ [] else []) ++ []) c)) (inl refl);
      from_is = refl;
      len_is = refl;
      to_is = ap (λ (x : Filed). x.file) q;
      events_are = ap (λ (x : Filed). x.events) (sym q);
    })
    by true c (inr q) = absurd q
    by false c q = absurd q

pub new_or_old : (t : Turn) (index : List ℕ) (id file : ℕ) (events : List Event) (standing : Standing) (f : Filed) →
    IsStandingOf index id events standing →
    In f (filed_by events (kept.turned t file standing)) → In f (filed_by events standing) ⊎ IsNew t file events standing f
new_or_old t index id file events (live b) f h i = new_by t file events b f (rule_of t.moves.frozen b.id) (live_is b h.state_is) refl i
new_or_old t index id file events (frozen e other) f h i = inl i

-- ---- the files that are done with

abbrev pub leaving : Turn → Bucket → List File
leaving t b = leaves_by t b (freezes_by t b)

-- the file of a live bucket, which has nothing there behind the turn
pub record IsLeft (t : Turn) (events : List Event) (standing : Standing) (file : File) : Type 0 where
  pub bucket : Bucket
  pub stands : standing ≡ live bucket
  pub is_its : bucket.file ≡ file
  pub moved : (number : ℕ) (f : Filed) → In f (filed_by events (kept.turned t number standing)) → f.file.number ≡ number

left_by : (t : Turn) (events : List Event) (b : Bucket) (file : File) (o : Option Rule) → is_live b ≡ true →
    rule_of t.moves.frozen b.id ≡ o →
    In file (leaves_by t b o ++ []) → IsLeft t events (live b) file
left_by t events b file None e r i = by_test (is_among t.moves.cooled b.id) cold (λ c. absurd (rw (cooling t b e ∙ c) at i))
  where
    goes : is_among t.moves.cooled b.id ≡ true → (number : ℕ) → kept.turned t number (live b) ≡ live (cooled number b)
    goes c number = ap (turned_by t number b) r ∙ rw c refl

    cold : is_among t.moves.cooled b.id ≡ true → IsLeft t events (live b) file
    cold c = by (rw (cooling t b e ∙ c) at i)
      where
        by : (b.file ≡ file) ⊎ ⊥ → IsLeft t events (live b) file
        by (inl q) = record {
          bucket = b;
          stands = refl;
          is_its = q;
          moved = λ number f j. at_number number f (subst (λ (x : Standing). In f (filed_by events x)) (goes c number) j);
        }
          where
            at_number : (number : ℕ) (f : Filed) → (record { file = (cooled number b).file; events = events } ≡ f) ⊎ ⊥ →
                f.file.number ≡ number
            at_number number f (inl p) = ap (λ (x : Filed). x.file.number) (sym p)
            at_number number f (inr p) = absurd p
        by (inr q) = absurd q
left_by t events b file (Some rule) e r i = by i
  where
    in_archive : (x : Bool) (number : ℕ) (f : Filed) → In f (archived events (if x then Some number else None) ++ []) →
        f.file.number ≡ number
    in_archive true number f (inl p) = ap (λ (x : Filed). x.file.number) (sym p)
    in_archive true number f (inr p) = absurd p
    in_archive false number f p = absurd p

    by : (b.file ≡ file) ⊎ ⊥ → IsLeft t events (live b) file
    by (inl q) = record {
      bucket = b;
      stands = refl;
      is_its = q;
      moved = λ number f j. in_archive t.archive number f
          (subst (λ (o : Option Rule). In f (filed_by events (turned_by t number b o))) r j);
    }
    by (inr q) = absurd q

pub left_of : (t : Turn) (index : List ℕ) (id : ℕ) (events : List Event) (standing : Standing) (file : File) →
    IsStandingOf index id events standing →
    In file (flat_map (leaving t) (option_to_list (listed standing))) → IsLeft t events standing file
left_of t index id events (live b) file h i =
    let e = live_is b h.state_is in
    left_by t events b file (rule_of t.moves.frozen b.id) e refl
    (subst (λ (o : Option Rule). In file (leaves_by t b o ++ [])) (live_rule t b e) i)
left_of t index id events (frozen f None) file h i = absurd i
left_of t index id events (frozen f (Some b)) file h i =
    let e = thawed_is b h.1.state_is in
    absurd (rw e at (subst (λ (o : Option Rule). In file (leaves_by t b o ++ [])) (no_rule t b e) i))
