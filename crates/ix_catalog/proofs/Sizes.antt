-- How many bytes the items of shelves and of the ledger have.
use Rattle.std.proofs.Common.{◌≡◌, ℕ, ℤ, ◌+◌, ◌*◌, ◌<◌, true, false, List, [], ◌∷◌, ◌++◌, map, refl, sym, ap, ◌∙◌, length, take, get_or}
use Rattle.std.proofs.Common.{arith, length-append}
use Rattle.std.specs.List.{flat_map, sum_by}
use Rattle.std.proofs.lemmas.List.Concat.{flat_map-append}
use Rattle.std.proofs.lemmas.List.Sums.{sum_by-cons}
use Rattle.ix_coding.specs.Spelling.{byte, four, eight, signed, string}
use Rattle.ix_items.specs.declared.items.Bucket.{Bucket}
use Rattle.ix_items.specs.declared.items.Entry.{Entry}
use Rattle.ix_items.specs.declared.items.Item.{Item}
use Rattle.ix_items.specs.declared.items.Item.TheVariants as items
use Rattle.ix_items.specs.Spelling.{bucket_bytes, entry_bytes, field_bytes, item_bytes, body_bytes}
use Rattle.ix_life.specs.declared.views.IndexView.{IndexView}
use Rattle.ix_catalog.specs.Measures.{has_some, has_number, index_items}
use Rattle.ix_catalog.specs.Shelves.{next_number}
use Rattle.ix_catalog.proofs.Putting.{gives_more}

length_byte : (n : ℕ) → length (byte n) ≡ 1
unfolding byte
length_byte n = refl

length_eight : (n : ℕ) → length (eight n) ≡ 8
unfolding eight
length_eight n = refl

length_signed : (z : ℤ) → length (signed z) ≡ 8
unfolding signed
length_signed z = refl

length_string : (text : List ℕ) → length (string text) ≡ 4 + length text
unfolding string four
length_string text = omega arith

length_bucket : (b : Bucket) → length (bucket_bytes b) ≡ 66
unfolding bucket_bytes
length_bucket b = simp (length-append, length_byte, length_eight, length_signed) refl

length_entry : (e : Entry) → length (entry_bytes e) ≡ 61 + length e.index
unfolding entry_bytes
length_entry e = simp (length-append, length_byte, length_eight, length_signed, length_string) (omega arith)

pub bucket_size : (name : List ℕ) (b : Bucket) → length (item_bytes (items.Bucket name b)) ≡ 71 + length name
unfolding item_bytes field_bytes
bucket_size name b = simp (length-append, length_byte, length_string, length_bucket) (omega arith)

pub next_size : (name : List ℕ) (id : ℕ) → length (item_bytes (items.NextId name id)) ≡ 13 + length name
unfolding item_bytes field_bytes
next_size name id = simp (length-append, length_byte, length_string, length_eight) (omega arith)

pub entry_size : (e : Entry) → length (item_bytes (items.Ledger e)) ≡ 62 + length e.index
unfolding item_bytes field_bytes
entry_size e = simp (length-append, length_byte, length_entry) (omega arith)

-- ---- of lists

pub size_behind : (xs ys : List Item) → length (body_bytes (xs ++ ys)) ≡ length (body_bytes xs) + length (body_bytes ys)
size_behind xs ys = ap length (flat_map-append item_bytes xs ys) ∙ length-append (body_bytes xs) (body_bytes ys)

size_first : (x : Item) (xs : List Item) → length (body_bytes (x ∷ xs)) ≡ length (item_bytes x) + length (body_bytes xs)
size_first x xs = length-append (item_bytes x) (body_bytes xs)

pub buckets_size : (name : List ℕ) (bs : List Bucket) → length (body_bytes (map (items.Bucket name) bs)) ≡ length bs * (71 + length name)
buckets_size name [] = omega arith
buckets_size name (b ∷ bs) =
    size_first (items.Bucket name b) (map (items.Bucket name) bs) ∙ omega (arith, bucket_size name b, buckets_size name bs)

pub entries_size : (es : List Entry) → length (body_bytes (map items.Ledger es)) ≡ sum_by
    (λ (e : Entry). length (item_bytes (items.Ledger e))) es
entries_size [] = refl
entries_size (e ∷ es) =
    size_first (items.Ledger e) (map items.Ledger es) ∙ ap (λ (n : ℕ). length (item_bytes (items.Ledger e)) + n) (entries_size es)
    ∙ sym (sum_by-cons (λ (x : Entry). length (item_bytes (items.Ledger x))) e es)

-- the items of one element more
pub size_more : {X : Type 0} (give : X → List Item) (xs : List X) (i : ℕ) (x : X) → i < length xs → x ≡ get_or xs i x
    → length (body_bytes (flat_map give (take (i + 1) xs))) ≡ length (body_bytes (flat_map give (take i xs))) + length (body_bytes (give x))
size_more give xs i x within is =
    ap (λ l. length (body_bytes l)) (gives_more give xs i x within) ∙ size_behind (flat_map give (take i xs)) (give (get_or xs i x))
    ∙ ap (λ y. length (body_bytes (flat_map give (take i xs))) + length (body_bytes (give y))) (sym is)

-- ---- of an index

pub none_some : (bs : List Bucket) → length bs ≡ 0 → has_some bs ≡ false
none_some [] none = refl
none_some (b ∷ bs) none = absurd (omega (arith, none))

pub numbered_size : (ledger : List Entry) (v : IndexView) → has_number ledger v ≡ true →
    length (body_bytes (index_items ledger v)) ≡ length v.buckets * (71 + length v.name) + (13 + length v.name)
numbered_size ledger v has =
    let next = items.NextId v.name (next_number v.name v.buckets ledger) in
    let is : index_items ledger v ≡ map (items.Bucket v.name) v.buckets ++ next ∷ [] = rw has refl in
    ap (λ (l : List Item). length (body_bytes l)) is ∙ size_behind (map (items.Bucket v.name) v.buckets) (next ∷ [])
    ∙ omega (arith, buckets_size v.name v.buckets, size_first next [], next_size v.name (next_number v.name v.buckets ledger))

pub plain_size : (ledger : List Entry) (v : IndexView) → has_number ledger v ≡ false →
    length (body_bytes (index_items ledger v)) ≡ length v.buckets * (71 + length v.name)
plain_size ledger v has =
    let is : index_items ledger v ≡ map (items.Bucket v.name) v.buckets ++ [] = rw has refl in
    ap (λ (l : List Item). length (body_bytes l)) is ∙ size_behind (map (items.Bucket v.name) v.buckets) []
    ∙ omega (arith, buckets_size v.name v.buckets)
