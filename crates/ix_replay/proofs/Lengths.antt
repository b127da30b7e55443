-- How many bytes items are written with.
use Rattle.std.proofs.Common.{◌≡◌, ℕ, ℤ, ◌+◌, List, [], ◌∷◌, Some, None, length, refl, ◌∙◌, arith, length-append}
use Rattle.std.specs.List.{flat_map, sum_by}
use Rattle.std.proofs.lemmas.List.Sums.{sum_by-cons}
use Rattle.ix_base.specs.declared.events.ChannelMeta.{ChannelMeta}
use Rattle.ix_base.specs.declared.events.Spot.{Spot}
use Rattle.ix_coding.specs.Spelling.{byte, four, eight, signed, string, option, flag}
use Rattle.ix_items.specs.Spelling.{item_bytes, field_bytes, kept_bytes, settings_bytes, meta_bytes, bucket_bytes, entry_bytes, spot_bytes}
use Rattle.ix_items.specs.declared.items.Bucket.{Bucket}
use Rattle.ix_items.specs.declared.items.Entry.{Entry}
use Rattle.ix_items.specs.declared.items.Kept.{Kept}
use Rattle.ix_items.specs.declared.items.Item.TheVariants as items

length_byte : (n : ℕ) → length (byte n) ≡ 1
unfolding byte
length_byte n = refl

length_four : (n : ℕ) → length (four n) ≡ 4
unfolding four
length_four n = refl

length_eight : (n : ℕ) → length (eight n) ≡ 8
unfolding eight
length_eight n = refl

length_signed : (z : ℤ) → length (signed z) ≡ 8
unfolding signed
length_signed z = refl

pub length_string : (text : List ℕ) → length (string text) ≡ 4 + length text
unfolding string four
length_string text = omega arith

pub length_none : length (option string None) ≡ 1
unfolding option flag byte
length_none = refl

pub length_some : (text : List ℕ) → length (option string (Some text)) ≡ 5 + length text
unfolding option flag byte string four
length_some text = omega arith

pub length_kept : (kept : Kept) → length (kept_bytes kept) ≡ 1 + (length (string kept.stanza) + length (string kept.key) + length
    (string kept.value))
length_kept kept = simp (length-append, length_byte) (omega arith)

length_all : (kept : List Kept) → length (flat_map kept_bytes kept) ≡ sum_by (λ k. length (kept_bytes k)) kept
length_all [] = refl
length_all (one ∷ kept) = length-append (kept_bytes one) (flat_map kept_bytes kept)
    ∙ omega (arith, length_all kept, sum_by-cons (λ (k : Kept). length (kept_bytes k)) one kept)

pub length_settings : (kept : List Kept) → length (item_bytes (items.Settings kept)) ≡ 5 + sum_by (λ k. length (kept_bytes k)) kept
unfolding item_bytes field_bytes settings_bytes
length_settings kept = simp (length-append, length_byte, length_four, length_all kept) (omega arith)

pub length_channel : (name : List ℕ) (meta : ChannelMeta) → length (item_bytes (items.Channel name meta []))
    ≡ 5 + (length (string name) + length (string meta.host) + length (string meta.source)) + (length
    (option string meta.sourcetype) + length (option string meta.index))
unfolding item_bytes field_bytes meta_bytes
length_channel name meta = simp (length-append, length_byte, length_string []) (omega arith)

pub length_bucket : (index : List ℕ) (bucket : Bucket) → length (item_bytes (items.Bucket index bucket)) ≡ 67 + length (string index)
unfolding item_bytes field_bytes bucket_bytes
length_bucket index bucket = simp (length-append, length_byte, length_eight, length_signed) (omega arith)

pub length_entry : (entry : Entry) → length (item_bytes (items.Ledger entry)) ≡ 58 + length (string entry.index)
unfolding item_bytes field_bytes entry_bytes
length_entry entry = simp (length-append, length_byte, length_eight, length_signed) (omega arith)

pub length_spot : (spot : Spot) → length (item_bytes (items.Spot spot)) ≡ 9 + (length (string spot.path) + length (string spot.head))
unfolding item_bytes field_bytes spot_bytes
length_spot spot = simp (length-append, length_byte, length_eight) (omega arith)

pub length_next : (index : List ℕ) (id : ℕ) → length (item_bytes (items.NextId index id)) ≡ 9 + length (string index)
unfolding item_bytes field_bytes
length_next index id = simp (length-append, length_byte, length_eight) (omega arith)
