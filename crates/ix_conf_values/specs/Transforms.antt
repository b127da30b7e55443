-- Transforms: what routes or changes an event at index time. From Splunk's Admin Manual,
-- transforms.conf.
use Rattle.std.specs.Prelude.{ℕ, ◌≡◌, ◌||◌, if◌then◌else◌, Bool, true, false, List, [], ◌∷◌, ◌++◌, Option, Some, None, IsSome, is_some}
use Rattle.std.specs.Prelude.{bytes_eq, codes, map}
use Rattle.std.specs.Option.{option_map}
use Rattle.ix_conf.specs.declared.layers.MergedEntry.{MergedEntry}
use Rattle.ix_pattern.specs.Rows.{Shape}
use Rattle.ix_pattern.specs.declared.faults.PatternFault.{PatternFault}
use Rattle.ix_conf_values.specs.Plain.{boolean, count_in}
use Rattle.ix_conf_values.specs.Patterns.{ReadsAs, HasFault}
use Rattle.ix_conf_values.specs.Escapes.{numbered}
use Rattle.ix_conf_values.specs.Values.{value_of}
use Rattle.ix_conf_values.specs.declared.escapes.Part.{Part}
use Rattle.ix_conf_values.specs.declared.escapes.Part.TheVariants.{Byte, Group}
use Rattle.ix_conf_values.specs.declared.transforms.Key.{Key}
use Rattle.ix_conf_values.specs.declared.transforms.Key.TheVariants.{Raw, Meta, Queue, Index, Host, Source, Sourcetype}
use Rattle.ix_conf_values.specs.declared.transforms.Transform.{Transform}
use Rattle.ix_conf_values.specs.declared.transforms.TransformFault.{TransformFault}
use Rattle.ix_conf_values.specs.declared.transforms.TransformFault.TheVariants.{BadValue, BadPattern, NoMemory}

-- the part of an event that a name stands for
abbrev pub key_of : List ℕ → Option Key
key_of name =
    if bytes_eq name (codes "_raw") then Some Raw
    else if bytes_eq name (codes "_meta") then Some Meta
    else if bytes_eq name (codes "queue") then Some Queue
    else if bytes_eq name (codes "_MetaData:Index") then Some Index
    else if bytes_eq name (codes "MetaData:Host") then Some Host
    else if bytes_eq name (codes "MetaData:Source") then Some Source
    else if bytes_eq name (codes "MetaData:Sourcetype") then Some Sourcetype
    else None

-- the values that a transform's stanza has, or `default`
pub record Values : Type 0 where
  pub default_value : Option (List ℕ)
  pub dest_key : Option (List ℕ)
  pub format : Option (List ℕ)
  pub lookahead : Option (List ℕ)
  pub regex : Option (List ℕ)
  pub source_key : Option (List ℕ)
  pub write_meta : Option (List ℕ)

abbrev pub values_of : List MergedEntry → List ℕ → Values
values_of entries stanza = record {
  default_value = value_of entries stanza (codes "DEFAULT_VALUE");
  dest_key = value_of entries stanza (codes "DEST_KEY");
  format = value_of entries stanza (codes "FORMAT");
  lookahead = value_of entries stanza (codes "LOOKAHEAD");
  regex = value_of entries stanza (codes "REGEX");
  source_key = value_of entries stanza (codes "SOURCE_KEY");
  write_meta = value_of entries stanza (codes "WRITE_META");
}

-- what is read of a value, and a default where none stands there
abbrev pub read_or : {A : Type 0} → (List ℕ → Option A) → A → Option (List ℕ) → Option A
read_or read default None = Some default
read_or read default (Some text) = read text

abbrev pub source_of : Values → Option Key
source_of v = read_or key_of Raw v.source_key

abbrev pub write_meta_of : Values → Option Bool
write_meta_of v = read_or boolean false v.write_meta

abbrev pub lookahead_of : Values → Option ℕ
lookahead_of v = read_or (count_in 1 8_388_608) 4096 v.lookahead

abbrev pub no_dest : Option Bool → Option (Option Key)
no_dest (Some true) = Some None
no_dest _ = None

-- without a destination, the value has to go to the indexed fields
abbrev pub dest_from : Option Bool → Option (List ℕ) → Option (Option Key)
dest_from writes_meta None = no_dest writes_meta
dest_from writes_meta (Some text) = option_map (λ key. Some key) (key_of text)

abbrev pub dest_of : Values → Option (Option Key)
dest_of v = dest_from (write_meta_of v) v.dest_key

-- the stanza's name, two colons and the first group
abbrev pub default_format : List ℕ → List Part
default_format stanza = map (λ b. Byte b) (stanza ++ codes "::") ++ Group 1 ∷ []

abbrev pub format_from : List ℕ → Option (List ℕ) → List Part
format_from stanza None = default_format stanza
format_from stanza (Some text) = numbered text

abbrev pub RegexIs : Option (List ℕ) → Shape → Type 0
RegexIs None shape = ⊥
RegexIs (Some text) shape = ReadsAs text shape

-- a transform was read of these values
pub record IsTransformOf (stanza : List ℕ) (v : Values) (transform : Transform) : Type 0 where
  pub regex : RegexIs v.regex transform.regex
  pub source : source_of v ≡ Some transform.source
  pub dest : dest_of v ≡ Some transform.dest
  pub format : transform.format ≡ format_from stanza v.format
  pub default_value : transform.default_value ≡ v.default_value
  pub write_meta : write_meta_of v ≡ Some transform.write_meta
  pub lookahead : lookahead_of v ≡ Some transform.lookahead

-- it has somewhere to write
abbrev pub HasDestination : Transform → Type 0
HasDestination transform = (is_some transform.dest || transform.write_meta) ≡ true

-- The key of the first value, in the order of the keys, that is none of its kind.
pub data RefusesKey (v : Values) (key : List ℕ) : Type 0 where
  bad_dest : key ≡ codes "DEST_KEY" → dest_of v ≡ None → RefusesKey v key
  bad_lookahead : key ≡ codes "LOOKAHEAD" → IsSome (dest_of v) → lookahead_of v ≡ None → RefusesKey v key
  no_regex : key ≡ codes "REGEX" → IsSome (dest_of v) → IsSome (lookahead_of v) → v.regex ≡ None → RefusesKey v key
  bad_source : key ≡ codes "SOURCE_KEY" → IsSome (dest_of v) → IsSome (lookahead_of v) → (shape : Shape) → RegexIs v.regex shape →
      source_of v ≡ None → RefusesKey v key
  bad_write_meta : key ≡ codes "WRITE_META" → IsSome (dest_of v) → IsSome (lookahead_of v) → (shape : Shape) → RegexIs v.regex shape →
      IsSome (source_of v) → write_meta_of v ≡ None → RefusesKey v key

abbrev pub RegexHasFault : Option (List ℕ) → PatternFault → Type 0
RegexHasFault None fault = ⊥
RegexHasFault (Some text) fault = HasFault text fault

-- the pattern has a fault, and the values of the keys before it are of their kind
pub record RefusesRegex (v : Values) (key : List ℕ) (fault : PatternFault) : Type 0 where
  pub is_regex : key ≡ codes "REGEX"
  pub dest : IsSome (dest_of v)
  pub lookahead : IsSome (lookahead_of v)
  pub has_fault : RegexHasFault v.regex fault

-- a transform is refused for the first fault in the order of its keys; want of memory may be
-- answered at any time
abbrev pub RefusesTransform : Values → TransformFault → Type 0
RefusesTransform v (BadValue key) = RefusesKey v key
RefusesTransform v (BadPattern key fault) = RefusesRegex v key fault
RefusesTransform v NoMemory = Unit {0}

-- the fault of a value that is none of its kind
abbrev pub IsBadValue : List ℕ → TransformFault → Type 0
IsBadValue name (BadValue key) = key ≡ name
IsBadValue name (BadPattern key fault) = ⊥
IsBadValue name NoMemory = Unit {0}

-- the pattern of a transform is refused; want of memory may be answered at any time
abbrev pub RefusesValue : Option (List ℕ) → TransformFault → Type 0
RefusesValue text (BadValue key) = (key ≡ codes "REGEX") × (text ≡ None)
RefusesValue text (BadPattern key fault) = (key ≡ codes "REGEX") × RegexHasFault text fault
RefusesValue text NoMemory = Unit {0}
