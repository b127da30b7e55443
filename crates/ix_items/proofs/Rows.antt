-- The rows with many fields: their fields one behind the other.
use Rattle.std.proofs.Common.{◌≡◌, ℕ, ℤ, List, ◌++◌, append_assoc}
use Rattle.ix_base.specs.declared.events.ChannelMeta.{ChannelMeta}
use Rattle.ix_base.specs.declared.events.Spot.{Spot}
use Rattle.ix_items.specs.declared.items.Item.TheVariants as items
use Rattle.ix_items.specs.declared.items.Kept.{Kept}
use Rattle.ix_items.specs.declared.items.Rule.{Rule}
use Rattle.ix_items.specs.declared.items.Bucket.{Bucket}
use Rattle.ix_items.specs.declared.items.Entry.{Entry}
use Rattle.ix_coding.specs.Spelling.{byte, eight, signed, string, option}
use Rattle.ix_items.specs.Spelling.{state_byte, rule_byte, archive_number, file_bytes, kept_bytes, meta_bytes, bucket_bytes, entry_bytes}
use Rattle.ix_items.specs.Spelling.{spot_bytes, field_bytes}

pub bucket_found : (b : Bucket) (bytes r1 r2 r3 rest : List ℕ) → bytes ≡ eight b.id ++ byte (state_byte b.state) ++ file_bytes b.file
    ++ eight b.bytes ++ r1
    → r1 ≡ eight b.count ++ signed b.newest ++ signed b.oldest ++ r2 → r2 ≡ eight b.used ++ r3 → r3 ≡ signed b.touched ++ rest
    → bytes ≡ bucket_bytes b ++ rest
unfolding bucket_bytes
bucket_found b bytes r1 r2 r3 rest h1 h2 h3 h4 = rw (h1, h2, h3, h4) (simp append_assoc)

pub frozen_found : (id : ℕ) (rule : Rule) (moment : ℤ) (bytes r1 r2 rest : List ℕ) → bytes ≡ eight id ++ r1 → r1 ≡ byte (rule_byte rule)
    ++ r2 → r2 ≡ signed moment ++ rest
    → bytes ≡ eight id ++ byte (rule_byte rule) ++ signed moment ++ rest
frozen_found id rule moment bytes r1 r2 rest h1 h2 h3 = rw (h1, h2, h3) (simp append_assoc)

pub entry_found : (e : Entry) (bytes r1 r2 r3 r4 rest : List ℕ) → bytes ≡ string e.index ++ r1 → r1 ≡ eight e.id ++ byte (rule_byte e.rule)
    ++ signed e.moment ++ r2
    → r2 ≡ eight e.count ++ signed e.newest ++ signed e.oldest ++ r3 → r3 ≡ eight e.bytes ++ r4 → r4 ≡ eight (archive_number e.archive)
    ++ rest
    → bytes ≡ entry_bytes e ++ rest
unfolding entry_bytes
entry_found e bytes r1 r2 r3 r4 rest h1 h2 h3 h4 h5 = rw (h1, h2, h3, h4, h5) (simp append_assoc)

pub kept_found : (k : Kept) (bytes r1 r2 r3 rest : List ℕ) → bytes ≡ byte k.file ++ r1 → r1 ≡ string k.stanza ++ r2 → r2 ≡ string k.key
    ++ r3 → r3 ≡ string k.value ++ rest → bytes ≡ kept_bytes k ++ rest
kept_found k bytes r1 r2 r3 rest h1 h2 h3 h4 = rw (h1, h2, h3, h4) (simp append_assoc)

pub meta_found : (m : ChannelMeta) (bytes r1 r2 r3 rest : List ℕ) → bytes ≡ string m.host ++ r1 → r1 ≡ string m.source ++ r2 →
    r2 ≡ option string m.sourcetype ++ r3 → r3 ≡ option string m.index ++ rest
    → bytes ≡ meta_bytes m ++ rest
unfolding meta_bytes
meta_found m bytes r1 r2 r3 rest h1 h2 h3 h4 = rw (h1, h2, h3, h4) (simp append_assoc)

pub spot_found : (s : Spot) (bytes r1 r2 rest : List ℕ) → bytes ≡ string s.path ++ r1 → r1 ≡ string s.head ++ r2 → r2 ≡ eight s.offset
    ++ rest → bytes ≡ spot_bytes s ++ rest
unfolding spot_bytes
spot_found s bytes r1 r2 rest h1 h2 h3 = rw (h1, h2, h3) (simp append_assoc)

pub channel_found : (name : List ℕ) (meta : ChannelMeta) (carry bytes r1 r2 rest : List ℕ) → bytes ≡ string name ++ r1 →
    r1 ≡ meta_bytes meta ++ r2 → r2 ≡ string carry ++ rest
    → bytes ≡ field_bytes (items.Channel name meta carry) ++ rest
unfolding field_bytes
channel_found name meta carry bytes r1 r2 rest h1 h2 h3 = rw (h1, h2, h3) (simp append_assoc)
