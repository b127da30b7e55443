-- What the bodies of requests say, over the values that `serde_json` reads of them.
use Rattle.std.specs.Prelude.{◌≡◌, ℕ, ◌&&◌, ◌||◌, Bool, true, false, List, [], ◌∷◌, length, Option, Some, None, codes, if◌then◌else◌}
use Rattle.std.specs.Prelude.{nat_le, option_map, option_and_then}
use Rattle.std.specs.Str.{bytes_eq, IsUtf8, is_utf8}
use Rattle.serde_json.specs.Data.{Data, null, boolean, number, string, array, object, Items, no_items, item, Members, no_members, member}
use Rattle.serde_json.specs.Find.{get, as_str, as_u64, as_number, as_array}
use Rattle.serde_json.specs.Read.{read}
use Rattle.ix_base.specs.declared.events.ChannelMeta.{ChannelMeta}

-- what `serde_json` says of a body: its value, or that it is none
abbrev pub IsJson : List ℕ → Option Data → Type 0
IsJson body None = IsUtf8 body → read body ≡ None
IsJson body (Some d) = IsUtf8 body × (read body ≡ Some d)

-- the value of a body, or none where `serde_json` refuses it
unfoldable pub json_of : List ℕ → Option Data
json_of body = if is_utf8 body then read body else None

-- each member has a name that passes the test
abbrev pub names_pass : (List ℕ → Bool) → Members → Bool
names_pass test no_members = true
names_pass test (member k d ms) = test k && names_pass test ms

-- an object with members of such names alone
abbrev pub is_object_of : (List ℕ → Bool) → Data → Bool
is_object_of test null = false
is_object_of test (boolean b) = false
is_object_of test (number n) = false
is_object_of test (string s) = false
is_object_of test (array ds) = false
is_object_of test (object ms) = names_pass test ms

-- ---- a channel's metadata

-- a text of 1 to 1,024 bytes
abbrev pub short_text : Data → Option (List ℕ)
short_text d =
    option_and_then (λ s. if nat_le 1 (length s) && nat_le (length s) 1024 then Some s else None) (as_str d)

-- a member that may be absent: the text, or none; the whole is none where the member is no such
-- text
abbrev pub wanted : Option Data → Option (Option (List ℕ))
wanted None = Some None
wanted (Some d) = option_map (λ s. Some s) (short_text d)

abbrev pub is_meta_name : List ℕ → Bool
is_meta_name k =
    bytes_eq k (codes "host") || (bytes_eq k (codes "source") || (bytes_eq k (codes "sourcetype") || bytes_eq k (codes "index")))

-- the metadata of a value of the form
unfoldable pub meta_of : Data → Option ChannelMeta
meta_of d =
    if is_object_of is_meta_name d then
    option_and_then (λ host. option_and_then (λ source. option_and_then (λ sourcetype. option_map
    (λ index. record { host = host; source = source; sourcetype = sourcetype; index = index })
    (wanted (get (codes "index") d)))
    (wanted (get (codes "sourcetype") d)))
    (option_and_then short_text (get (codes "source") d)))
    (option_and_then short_text (get (codes "host") d))
    else None

-- ---- a query of acknowledgements

abbrev pub is_acks_name : List ℕ → Bool
is_acks_name k = bytes_eq k (codes "run") || bytes_eq k (codes "acks")

abbrev pub u64_of : Data → Option ℕ
u64_of d = option_and_then as_u64 (as_number d)

-- each item is a u64
abbrev pub numbers_in : Items → Option (List ℕ)
numbers_in no_items = Some []
numbers_in (item d ds) = option_and_then (λ n. option_map (λ ns. n ∷ ns) (numbers_in ds)) (u64_of d)

abbrev pub numbers_of : Data → Option (List ℕ)
numbers_of d = option_and_then numbers_in (as_array d)

-- the run of a value of the form, and the value of its numbers
unfoldable pub acks_parts : Data → Option (ℕ × Data)
acks_parts d =
    if is_object_of is_acks_name d then
    option_and_then (λ run. option_map (λ numbers. (run, numbers)) (get (codes "acks") d)) (option_and_then u64_of (get (codes "run") d))
    else None

abbrev pub with_numbers : ℕ × Data → Option (ℕ × List ℕ)
with_numbers (run, value) = option_map (λ numbers. (run, numbers)) (numbers_of value)

-- the run and the numbers of a value of the form
unfoldable pub acks_of : Data → Option (ℕ × List ℕ)
acks_of d = option_and_then with_numbers (acks_parts d)
