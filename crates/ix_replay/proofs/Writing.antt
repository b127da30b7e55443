-- What the test of items tells.
use Rattle.std.proofs.Common.{◌≡◌, ◌≢◌, ◌≤◌, ◌+◌, ◌^◌, ℕ, ℤ, Bool, true, false, List, [], ◌∷◌, ◌++◌, length, refl, sym, ap, ◌∙◌}
use Rattle.std.specs.Prelude.{Decides, MatchOption, option_to_list, ◌&&◌, ◌==◌, not, pos, negsuc, nat_le, Option, Some, None}
use Rattle.std.specs.List.{AllByRecursion, list_all}
use Rattle.std.proofs.lemmas.Bool.{eqb-true, leb-true, le-leb}
use Rattle.std.proofs.lemmas.List.{nil_from_length}
use Rattle.std.proofs.lemmas.Bool.Decides.{Decides-and, Decides-like, Decides-ltb, Decides-eqb}
use Rattle.ix_base.specs.declared.events.ChannelMeta.{ChannelMeta}
use Rattle.ix_base.specs.declared.files.File.{File}
use Rattle.ix_coding.specs.Spelling.{IsShort, IsShortOption, Is64, IsSigned64}
use Rattle.ix_items.specs.Spelling.{archive_number, IsKept, IsMeta, BucketInRange, EntryInRange, IsWritable, IsInRange, HasSpelling}
use Rattle.ix_items.specs.declared.items.Bucket.{Bucket}
use Rattle.ix_items.specs.declared.items.Entry.{Entry}
use Rattle.ix_items.specs.declared.items.Item.{Item}
use Rattle.ix_items.specs.declared.items.Item.TheVariants as items
use Rattle.ix_items.specs.declared.items.Kept.{Kept}
use Rattle.ix_manifest.specs.Whole.{HasTold}
use Rattle.ix_replay.specs.Writable.{is_short, is_short_option, is_kept, is_meta, is_archive, is_writable, is_64, is_signed, is_bucket}
use Rattle.ix_replay.specs.Writable.{is_entry, is_numbered, is_in_range, can_write}

some_same : {X : Type 0} {x y : X} → Some x ≡ Some y → x ≡ y
some_same e = cc

none_some : {X : Type 0} {x : X} → None ≡ Some x → ⊥
none_some e = cc

true_false : true ≡ false → ⊥
true_false e = cc

-- ---- tests

both : {P Q : Type 0} (x y : Bool) → Decides x P → Decides y Q → Decides (x && y) (P × Q)
both x y p q = Decides-and x y p q

always : Decides true (Unit {0})
always = (λ e. tt, λ u. refl)

all_decided : {X : Type 0} (test : X → Bool) (P : X → Type 0) → ((x : X) → Decides (test x) (P x)) → (xs : List X) →
    Decides (list_all test xs) (AllByRecursion P xs)
all_decided test P each [] = (λ e. tt, λ u. refl)
all_decided test P each (x ∷ xs) = both (test x) (list_all test xs) (each x) (all_decided test P each xs)

short_decided : {A : Type 0} (list : List A) → Decides (is_short list) (IsShort list)
short_decided list = Decides-ltb (length list) (2 ^ 32)

option_decided : (o : Option (List ℕ)) → Decides (is_short_option o) (IsShortOption o)
option_decided None = (λ e. tt, λ h. refl)
option_decided (Some text) = short_decided text

is_64_decided : (n : ℕ) → Decides (is_64 n) (Is64 n)
is_64_decided n = Decides-ltb n (2 ^ 64)

signed_decided : (z : ℤ) → Decides (is_signed z) (IsSigned64 z)
signed_decided (pos n) = let d = Decides-ltb n (2 ^ 63) in (λ e. record { sfits = d.0 e }, λ h. d.1 h.sfits)
signed_decided (negsuc n) = let d = Decides-ltb n (2 ^ 63) in (λ e. record { sfits = d.0 e }, λ h. d.1 h.sfits)

le_decided : (a b : ℕ) → Decides (nat_le a b) (a ≤ b)
le_decided a b = (leb-true a b, le-leb a b)

-- ---- what is written

kept_decided : (k : Kept) → Decides (is_kept k) (IsKept k)
kept_decided k =
    let t = both (nat_le 1 k.file) _ (le_decided 1 k.file) (both (nat_le k.file 4) _ (le_decided k.file 4)
    (both (is_short k.stanza) _ (short_decided k.stanza)
    (both (is_short k.key) (is_short k.value) (short_decided k.key) (short_decided k.value)))) in
    Decides-like (is_kept k) (λ h. record { from = h.0; to = h.1.0; stanza = h.1.1.0; key = h.1.1.1.0; value = h.1.1.1.1 })
    (λ h. (h.from, (h.to, (h.stanza, (h.key, h.value))))) t

meta_decided : (m : ChannelMeta) → Decides (is_meta m) (IsMeta m)
meta_decided m =
    let t = both (is_short m.host) _ (short_decided m.host) (both (is_short m.source) _ (short_decided m.source)
    (both (is_short_option m.sourcetype) (is_short_option m.index) (option_decided m.sourcetype) (option_decided m.index))) in
    Decides-like (is_meta m) (λ h. record { host = h.0; source = h.1.0; sourcetype = h.1.1.0; index = h.1.1.1 })
    (λ h. (h.host, (h.source, (h.sourcetype, h.index)))) t

archive_decided : (o : Option ℕ) → Decides (is_archive o) (o ≢ Some 0)
archive_decided None = (λ e q. none_some q, λ h. refl)
archive_decided (Some number) = (λ e q. true_false (sym e ∙ ap not ((Decides-eqb number 0).1 (some_same q))), λ h. by (number == 0) refl h)
  where
    by : (t : Bool) → (number == 0) ≡ t → (Some number ≢ Some 0) → not (number == 0) ≡ true
    by true e h = absurd (h (ap Some (eqb-true number 0 e)))
    by false e h = ap not e

writable_decided : (item : Item) → Decides (is_writable item) (IsWritable item)
writable_decided (items.Settings kept) = both (is_short kept) (list_all is_kept kept) (short_decided kept)
    (all_decided is_kept IsKept kept_decided kept)
writable_decided (items.Run run) = always
writable_decided (items.Moments last tick) = always
writable_decided (items.Channel name meta carry) =
    Decides-like (is_writable (items.Channel name meta carry)) (λ h. (h.0, h.1.0, h.1.1)) (λ h. (h.0, (h.1, h.2)))
    (both (is_short name) _ (short_decided name) (both (is_meta meta) (is_short carry) (meta_decided meta) (short_decided carry)))
writable_decided (items.Ended name) = short_decided name
writable_decided (items.Bucket index bucket) = short_decided index
writable_decided (items.Gone index id) = short_decided index
writable_decided (items.Ledger entry) = both (is_short entry.index) (is_archive entry.archive) (short_decided entry.index)
    (archive_decided entry.archive)
writable_decided (items.Counts settled nulled dropped placed) = always
writable_decided (items.Spot spot) = both (is_short spot.path) (is_short spot.head) (short_decided spot.path) (short_decided spot.head)
writable_decided (items.NextFile number) = always
writable_decided (items.Removals files) = short_decided files
writable_decided (items.NextId index id) = short_decided index

-- ---- its numbers

bucket_decided : (b : Bucket) → Decides (is_bucket b) (BucketInRange b)
bucket_decided b =
    let t = both (is_64 b.id) _ (is_64_decided b.id) (both (is_64 b.file.number) _ (is_64_decided b.file.number)
    (both (is_64 b.bytes) _ (is_64_decided b.bytes) (both (is_64 b.count) _ (is_64_decided b.count)
    (both (is_signed b.newest) _ (signed_decided b.newest) (both (is_signed b.oldest) _ (signed_decided b.oldest)
    (both (is_64 b.used) (is_signed b.touched) (is_64_decided b.used) (signed_decided b.touched))))))) in
    Decides-like (is_bucket b)
    (λ h. record {
      id = h.0;
      number = h.1.0;
      bytes = h.1.1.0;
      count = h.1.1.1.0;
      newest = h.1.1.1.1.0;
      oldest = h.1.1.1.1.1.0;
      used = h.1.1.1.1.1.1.0;
      touched = h.1.1.1.1.1.1.1;
    })
    (λ h. (h.id, (h.number, (h.bytes, (h.count, (h.newest, (h.oldest, (h.used, h.touched)))))))) t

entry_decided : (e : Entry) → Decides (is_entry e) (EntryInRange e)
entry_decided e =
    let t = both (is_64 e.id) _ (is_64_decided e.id) (both (is_signed e.moment) _ (signed_decided e.moment)
    (both (is_64 e.count) _ (is_64_decided e.count) (both (is_signed e.newest) _ (signed_decided e.newest)
    (both (is_signed e.oldest) _ (signed_decided e.oldest)
    (both (is_64 e.bytes) (is_64 (archive_number e.archive)) (is_64_decided e.bytes) (is_64_decided (archive_number e.archive))))))) in
    Decides-like (is_entry e)
    (λ h. record {
      id = h.0;
      moment = h.1.0;
      count = h.1.1.0;
      newest = h.1.1.1.0;
      oldest = h.1.1.1.1.0;
      bytes = h.1.1.1.1.1.0;
      archive = h.1.1.1.1.1.1;
    })
    (λ h. (h.id, (h.moment, (h.count, (h.newest, (h.oldest, (h.bytes, h.archive))))))) t

range_decided : (item : Item) → Decides (is_in_range item) (IsInRange item)
range_decided (items.Settings kept) = always
range_decided (items.Run run) = is_64_decided run
range_decided (items.Moments last tick) = both (is_signed last) (is_signed tick) (signed_decided last) (signed_decided tick)
range_decided (items.Channel name meta carry) = always
range_decided (items.Ended name) = always
range_decided (items.Bucket index bucket) = bucket_decided bucket
range_decided (items.Gone index id) = is_64_decided id
range_decided (items.Ledger entry) = entry_decided entry
range_decided (items.Counts settled nulled dropped placed) =
    Decides-like (is_in_range (items.Counts settled nulled dropped placed)) (λ h. (h.0, h.1.0, h.1.1.0, h.1.1.1))
    (λ h. (h.0, (h.1, (h.2, h.3))))
    (both (is_64 settled) _ (is_64_decided settled) (both (is_64 nulled) _ (is_64_decided nulled)
    (both (is_64 dropped) (is_64 placed) (is_64_decided dropped) (is_64_decided placed))))
range_decided (items.Spot spot) = is_64_decided spot.offset
range_decided (items.NextFile number) = is_64_decided number
range_decided (items.Removals files) = all_decided is_numbered (λ (f : File). Is64 f.number) (λ f. is_64_decided f.number) files
range_decided (items.NextId index id) = is_64_decided id

-- ---- both

pub written_decided : (item : Item) → Decides (can_write item) (HasSpelling item)
written_decided item =
    Decides-like (can_write item) (λ h. record { writable = h.0; in_range = h.1 }) (λ h. (h.writable, h.in_range))
    (both (is_writable item) (is_in_range item) (writable_decided item) (range_decided item))

pub all_written : (list : List Item) → AllByRecursion HasSpelling list → list_all can_write list ≡ true
all_written list h = (all_decided can_write HasSpelling written_decided list).1 h

pub first_written : (item : Item) (list : List Item) → list_all can_write (item ∷ list) ≡ true → HasSpelling item
    × (list_all can_write list ≡ true)
first_written item list e =
    let d = (both (can_write item) (list_all can_write list) (written_decided item) ((λ t. t), (λ t. t))).0 e in
    d

-- what a walk tells next
pub told_next : (o : Option Item) (old new : List Item) (m n : ℕ) → m ≡ length old → old ≡ option_to_list o ++ new →
    MatchOption o ((m ≡ 0) × (n ≡ 0)) (λ x. (old ≡ x ∷ new) × (n + 1 ≡ m)) → list_all can_write old ≡ true → HasTold o old new
told_next None old new m n a items cases w = let none = nil_from_length old (sym a ∙ cases.0) in (none, sym items ∙ none)
told_next (Some item) old new m n a items cases w = ((first_written item new (ap (list_all can_write) (sym cases.0) ∙ w)).0, cases.0)
