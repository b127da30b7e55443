-- The items that are spelled are read again, whatever follows them. So each spelling has one
-- reading.
use Rattle.std.proofs.Common.{◌≡◌, ℕ, zero, suc, ◌+◌, ◌-◌, ◌<◌, ◌≤◌, take, length-append, List, [], ◌∷◌, ◌++◌, length, Option, Some, None}
use Rattle.std.proofs.Common.{refl, sym, ap, ◌∙◌, append_assoc, arith}
use Rattle.std.specs.List.{flat_map, AllByRecursion}
use Rattle.std.proofs.lemmas.List.Concat.{flat_map-cons}
use Rattle.std.proofs.lemmas.Bool.{le-leb, ne_eqb}
use Rattle.std.proofs.lemmas.List.{take_at}
use Rattle.ix_base.specs.declared.files.File.{File}
use Rattle.ix_base.specs.declared.events.ChannelMeta.{ChannelMeta}
use Rattle.ix_base.specs.declared.events.Spot.{Spot}
use Rattle.ix_items.specs.declared.items.Bucket.{Bucket}
use Rattle.ix_items.specs.declared.items.Entry.{Entry}
use Rattle.ix_items.specs.declared.items.Kept.{Kept}
use Rattle.ix_items.specs.declared.items.Item.{Item}
use Rattle.ix_items.specs.declared.items.Item.TheVariants as items
use Rattle.ix_items.specs.declared.items.ItemFault.{ItemFault}
use Rattle.ix_items.specs.declared.items.ItemFault.TheVariants as faults
use Rattle.ix_items.specs.Spelling.{area_byte, state_byte, rule_byte, archive_number, file_bytes, kept_bytes, files_bytes, settings_bytes}
use Rattle.ix_items.specs.Spelling.{meta_bytes, bucket_bytes, entry_bytes, spot_bytes, kind_byte, field_bytes, item_bytes, body_bytes}
use Rattle.ix_items.specs.Spelling.{IsKept, IsMeta, IsWritable, BucketInRange, EntryInRange, IsInRange, HasSpelling}
use Rattle.ix_items.specs.Reading.{Fails, file_at, file_number_at, kept_at, settings_at, files_at, meta_at, span_at, place_at, bucket_at}
use Rattle.ix_items.specs.Reading.{archive_of, frozen_at, entry_at, spot_at, moments_at, channel_at, counts_at, named_at, in_index_at}
use Rattle.ix_items.specs.Reading.{fields_at, item_at}
use Rattle.ix_coding.specs.Spelling.{byte, four, eight, signed, string, option, IsShort, Is64}
use Rattle.ix_coding.specs.Reading.{byte_at}
use Rattle.ix_coding.proofs.Again.{byte_again, four_again, eight_again, signed_again, string_again, option_again}
use Rattle.ix_items.proofs.Again.{area_again, state_again, rule_again}
use Rattle.ix_items.proofs.Lists.{list_again}

file_again : (f : File) (rest : List ℕ) → Is64 f.number → file_at (byte (area_byte f.area) ++ (eight f.number ++ rest)) ≡ Some (f, rest)
unfolding file_at
file_again f rest h = rw (byte_again, area_again, eight_again f.number rest h) refl

whole_file_again : (f : File) (rest : List ℕ) → Is64 f.number → file_at (file_bytes f ++ rest) ≡ Some (f, rest)
whole_file_again f rest h = ap file_at (append_assoc (byte (area_byte f.area)) (eight f.number) rest) ∙ file_again f rest h

meta_again : (m : ChannelMeta) (rest : List ℕ) → IsMeta m → meta_at (meta_bytes m ++ rest) ≡ Some (m, rest)
unfolding meta_at meta_bytes
meta_again m rest h =
    let split : meta_bytes m ++ rest ≡ string m.host ++ (string m.source
    ++ (option string m.sourcetype ++ (option string m.index ++ rest))) = simp append_assoc in
    ap meta_at split ∙ rw (
      string_again m.host _ h.host,
      string_again m.source _ h.source,
      option_again m.sourcetype _ h.sourcetype,
      option_again m.index rest h.index,
    ) refl

bucket_again : (b : Bucket) (rest : List ℕ) → BucketInRange b → bucket_at (bucket_bytes b ++ rest) ≡ Some (b, rest)
unfolding bucket_at place_at span_at bucket_bytes
bucket_again b rest h =
    let split : bucket_bytes b ++ rest ≡ eight b.id ++ (byte (state_byte b.state)
    ++ (byte (area_byte b.file.area) ++ (eight b.file.number
    ++ (eight b.bytes ++ (eight b.count ++ (signed b.newest ++ (signed b.oldest ++ (eight b.used ++ (signed b.touched ++ rest))))))))) =
    simp append_assoc in
    ap bucket_at split ∙ rw (
      eight_again b.id _ h.id,
      byte_again (state_byte b.state),
      state_again b.state,
      file_again b.file _ h.number,
      eight_again b.bytes _ h.bytes,
      eight_again b.count _ h.count,
      signed_again b.newest _ h.newest,
      signed_again b.oldest _ h.oldest,
      eight_again b.used _ h.used,
      signed_again b.touched rest h.touched,
    ) refl

archive_again : (a : Option ℕ) → (a ≡ Some 0 → ⊥) → archive_of (archive_number a) ≡ a
unfolding archive_of
archive_again None h = refl
archive_again (Some zero) h = absurd (h refl)
archive_again (Some (suc n)) h = rw (ne_eqb (suc n) 0 (λ e. absurd (omega arith))) refl

entry_again : (e : Entry) (rest : List ℕ) → IsShort e.index → (e.archive ≡ Some 0 → ⊥) → EntryInRange e →
    entry_at (entry_bytes e ++ rest) ≡ Some (e, rest)
unfolding entry_at frozen_at span_at entry_bytes
entry_again e rest short some h =
    let split : entry_bytes e ++ rest ≡ string e.index ++ (eight e.id
    ++ (byte (rule_byte e.rule) ++ (signed e.moment
    ++ (eight e.count ++ (signed e.newest ++ (signed e.oldest ++ (eight e.bytes ++ (eight (archive_number e.archive) ++ rest)))))))) =
    simp append_assoc in
    ap entry_at split ∙ rw (
      string_again e.index _ short,
      eight_again e.id _ h.id,
      byte_again (rule_byte e.rule),
      rule_again e.rule,
      signed_again e.moment _ h.moment,
      eight_again e.count _ h.count,
      signed_again e.newest _ h.newest,
      signed_again e.oldest _ h.oldest,
      eight_again e.bytes _ h.bytes,
      eight_again (archive_number e.archive) rest h.archive,
      archive_again e.archive some,
    ) refl

spot_again : (s : Spot) (rest : List ℕ) → IsShort s.path → IsShort s.head → Is64 s.offset → spot_at (spot_bytes s ++ rest) ≡ Some (s, rest)
unfolding spot_at spot_bytes
spot_again s rest path head offset =
    let split : spot_bytes s ++ rest ≡ string s.path ++ (string s.head ++ (eight s.offset ++ rest)) = simp append_assoc in
    ap spot_at split ∙ rw (string_again s.path _ path, string_again s.head _ head, eight_again s.offset rest offset) refl

file_number_again : (n : ℕ) (rest : List ℕ) → 1 ≤ n → n ≤ 4 → file_number_at (byte n ++ rest) ≡ Some (n, rest)
unfolding file_number_at
file_number_again n rest low high = rw (byte_again n rest, le-leb 1 n low, le-leb n 4 high) refl

kept_again : (k : Kept) (rest : List ℕ) → IsKept k → kept_at (kept_bytes k ++ rest) ≡ Some (k, rest)
unfolding kept_at
kept_again k rest h =
    let split : kept_bytes k ++ rest ≡ byte k.file ++ (string k.stanza ++ (string k.key ++ (string k.value ++ rest))) = simp append_assoc in
    ap kept_at split ∙ rw (
      file_number_again k.file _ h.from h.to,
      string_again k.stanza _ h.stanza,
      string_again k.key _ h.key,
      string_again k.value rest h.value,
    ) refl

settings_again : (kept : List Kept) (rest : List ℕ) → IsShort kept → AllByRecursion IsKept kept →
    settings_at (settings_bytes kept ++ rest) ≡ Some (kept, rest)
unfolding settings_at settings_bytes
settings_again kept rest short all =
    ap settings_at (append_assoc (four (length kept)) (flat_map kept_bytes kept) rest)
    ∙ rw (four_again (length kept) (flat_map kept_bytes kept ++ rest) short) (list_again kept_at kept_bytes IsKept kept_again kept rest all)

files_again : (files : List File) (rest : List ℕ) → IsShort files → AllByRecursion (λ f. Is64 f.number) files →
    files_at (files_bytes files ++ rest) ≡ Some (files, rest)
unfolding files_at files_bytes
files_again files rest short all =
    ap files_at (append_assoc (four (length files)) (flat_map file_bytes files) rest)
    ∙ rw (four_again (length files) (flat_map file_bytes files ++ rest) short)
    (list_again file_at file_bytes (λ f. Is64 f.number) whole_file_again files rest all)

named_again : (index : List ℕ) (id : ℕ) (rest : List ℕ) → IsShort index → Is64 id →
    named_at (string index ++ eight id ++ rest) ≡ Some ((index, id), rest)
unfolding named_at
named_again index id rest short h = ap named_at (append_assoc (string index) (eight id) rest)
    ∙ rw (string_again index _ short, eight_again id rest h) refl

fields_again : (item : Item) (rest : List ℕ) → IsWritable item → IsInRange item →
    fields_at (kind_byte item) (field_bytes item ++ rest) ≡ Some (item, rest)
unfolding fields_at field_bytes moments_at channel_at counts_at in_index_at
fields_again (items.Settings kept) rest can in_range = rw (settings_again kept rest can.0 can.1) refl
fields_again (items.Run run) rest can in_range = rw (eight_again run rest in_range) refl
fields_again (items.Moments last tick) rest can in_range =
    ap (fields_at 3) (append_assoc (signed last) (signed tick) rest)
    ∙ rw (signed_again last _ in_range.0, signed_again tick rest in_range.1) refl
fields_again (items.Channel name meta carry) rest can in_range =
    let split : string name ++ meta_bytes meta ++ string carry ++ rest ≡ string name ++ (meta_bytes meta ++ (string carry ++ rest)) =
    simp append_assoc in
    ap (fields_at 4) split ∙ rw (string_again name _ can.0, meta_again meta _ can.1, string_again carry rest can.2) refl
fields_again (items.Ended name) rest can in_range = rw (string_again name rest can) refl
fields_again (items.Bucket index bucket) rest can in_range =
    ap (fields_at 6) (append_assoc (string index) (bucket_bytes bucket) rest)
    ∙ rw (string_again index _ can, bucket_again bucket rest in_range) refl
fields_again (items.Gone index id) rest can in_range = rw (named_again index id rest can in_range) refl
fields_again (items.Ledger entry) rest can in_range = rw (entry_again entry rest can.0 can.1 in_range) refl
fields_again (items.Counts settled nulled dropped placed) rest can in_range =
    let split : eight settled ++ eight nulled ++ eight dropped ++ eight placed ++ rest ≡ eight settled
    ++ (eight nulled ++ (eight dropped ++ (eight placed ++ rest))) = simp append_assoc in
    ap (fields_at 9) split ∙ rw (
      eight_again settled _ in_range.0,
      eight_again nulled _ in_range.1,
      eight_again dropped _ in_range.2,
      eight_again placed rest in_range.3,
    ) refl
fields_again (items.Spot spot) rest can in_range = rw (spot_again spot rest can.0 can.1 in_range) refl
fields_again (items.NextFile number) rest can in_range = rw (eight_again number rest in_range) refl
fields_again (items.Removals files) rest can in_range = rw (files_again files rest can in_range) refl
fields_again (items.NextId index id) rest can in_range = rw (named_again index id rest can in_range) refl

pub item_again : (item : Item) (rest : List ℕ) → HasSpelling item → item_at (item_bytes item ++ rest) ≡ Some (item, rest)
unfolding item_at item_bytes
item_again item rest has =
    ap item_at (append_assoc (byte (kind_byte item)) (field_bytes item) rest)
    ∙ rw (byte_again (kind_byte item) (field_bytes item ++ rest)) (fields_again item rest has.writable has.in_range)

-- ---- what follows

pub none_at : (item : Item) (rest bytes : List ℕ) → HasSpelling item → bytes ≡ item_bytes item ++ rest → item_at bytes ≡ None → ⊥
none_at item rest bytes has is none = let e = item_again item rest has in cc

some_is : {A : Type 0} (x y : A) → Some x ≡ Some y → x ≡ y
some_is x y e = cc

abbrev read_pair : Item → List ℕ → Item × List ℕ
read_pair item rest = (item, rest)

pub one_at : (item other : Item) (rest after bytes : List ℕ) → HasSpelling item → bytes ≡ item_bytes item ++ rest →
    item_at bytes ≡ Some (other, after) → (other ≡ item) × (after ≡ rest)
one_at item other rest after bytes has is read =
    let e = some_is (read_pair other after) (read_pair item rest) (sym read ∙ ap item_at is ∙ item_again item rest has) in
    (ap (λ (p : Item × List ℕ). p.0) e, ap (λ (p : Item × List ℕ). p.1) e)

pub one_reading : (a b : Item) (x y : List ℕ) → HasSpelling a → HasSpelling b → item_bytes a ++ x ≡ item_bytes b ++ y → (a ≡ b) × (x ≡ y)
one_reading a b x y has_a has_b is =
    let e = some_is (read_pair a x) (read_pair b y) (sym (item_again a x has_a) ∙ ap item_at is ∙ item_again b y has_b) in
    (ap (λ (p : Item × List ℕ). p.0) e, ap (λ (p : Item × List ℕ). p.1) e)

nothing_at : item_at [] ≡ None
unfolding item_at byte_at
nothing_at = refl

split_body : (item : Item) (list : List Item) → body_bytes (item ∷ list) ≡ item_bytes item ++ body_bytes list
split_body item list = flat_map-cons item_bytes item list

pub one_body : (xs ys : List Item) → AllByRecursion HasSpelling xs → AllByRecursion HasSpelling ys → body_bytes xs ≡ body_bytes ys → xs ≡ ys
one_body [] [] has_xs has_ys is = refl
one_body [] (y ∷ ys) has_xs has_ys is = absurd (none_at y (body_bytes ys) [] has_ys.0 (is ∙ split_body y ys) nothing_at)
one_body (x ∷ xs) [] has_xs has_ys is = absurd (none_at x (body_bytes xs) [] has_xs.0 (sym is ∙ split_body x xs) nothing_at)
one_body (x ∷ xs) (y ∷ ys) has_xs has_ys is =
    let one = one_reading x y (body_bytes xs) (body_bytes ys) has_xs.0 has_ys.0 (sym (split_body x xs) ∙ is ∙ split_body y ys) in
    let rest = one_body xs ys has_xs.1 has_ys.1 one.1 in
    cc

pub fails_bad : {Y : Type 0} (e : ItemFault) (read : Option Y) → e ≡ faults.BadItem → Fails e read → read ≡ None
fails_bad faults.NoMemory read is fails = absurd cc
fails_bad faults.BadItem read is fails = fails

pub item_found : (item : Item) (bytes rest : List ℕ) → bytes ≡ item_bytes item ++ rest
    → (0 < length bytes - length rest) × (length bytes - length rest ≤ length bytes)
    × (take (length bytes - length rest) bytes ≡ item_bytes item)
unfolding item_bytes byte
item_found item bytes rest is =
    let size : length bytes ≡ length (item_bytes item) + length rest = ap length is ∙ length-append (item_bytes item) rest in
    let some : 0 < length (item_bytes item) = omega arith in
    let n : length (item_bytes item) ≡ length bytes - length rest = omega arith in (
      omega arith,
      omega arith,
      ap (λ (l : List ℕ). take (length bytes - length rest) l) is
          ∙ take_at (item_bytes item) rest (length bytes - length rest) n,
    )
