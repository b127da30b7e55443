-- What inputs.conf says: its first fault, and the files that are watched. From Splunk's Admin
-- Manual, inputs.conf.
use Rattle.std.specs.Prelude.{◌≡◌, ◌≤◌, ℕ, Bool, true, false, not, ◌&&◌, ◌||◌, nat_le, length, if◌then◌else◌, List, [], ◌∷◌, Option, Some}
use Rattle.std.specs.Prelude.{None, IfSome, is_some, unwrap_or, codes, bytes_eq}
use Rattle.std.specs.Option.{option_and_then, option_or}
use Rattle.std.specs.List.{flat_map}
use Rattle.ix_conf.specs.declared.layers.MergedEntry.{MergedEntry}
use Rattle.ix_conf_values.specs.Plain.{boolean}
use Rattle.ix_conf_values.specs.Values.{value_of}
use Rattle.ix_life.specs.declared.sets.LimitSet.{LimitSet}
use Rattle.ix_life.specs.Limits.{limits_of}
use Rattle.ix_monitor.specs.declared.faults.InputFault.{InputFault}
use Rattle.ix_monitor.specs.declared.faults.InputFault.TheVariants.{BadValue, BadStanza, NoMemory}
use Rattle.ix_monitor.specs.declared.inputs.Input.{Input}
use Rattle.ix_monitor.specs.Paths.{path_of, is_bad_path}

-- ---- faults

abbrev pub is_name_key : List ℕ → Bool
is_name_key key = (bytes_eq key (codes "host") || bytes_eq key (codes "source")) || bytes_eq key (codes "sourcetype")

-- names are short, an index is configured, and `disabled` is a boolean; other keys take any value
abbrev pub is_good_value : LimitSet → List ℕ → List ℕ → Bool
is_good_value limits key text =
    if is_name_key key then nat_le (length text) 1024
    else if bytes_eq key (codes "index") then is_some (limits_of limits text)
    else if bytes_eq key (codes "disabled") then is_some (boolean text)
    else true

-- an empty value says no more than that there is none
abbrev pub is_good : LimitSet → List ℕ → List ℕ → Bool
is_good limits key [] = true
is_good limits key (b ∷ bs) = is_good_value limits key (b ∷ bs)

-- values of watched files and of `default` are judged
abbrev pub is_judged : List ℕ → Bool
is_judged stanza = bytes_eq stanza (codes "default") || is_some (path_of stanza)

abbrev pub is_bad_stanza : Option (List ℕ) → Bool
is_bad_stanza None = false
is_bad_stanza (Some path) = is_bad_path path

abbrev pub stanza_fault : List ℕ → Option InputFault
stanza_fault stanza = if is_bad_stanza (path_of stanza) then Some (BadStanza stanza) else None

abbrev pub value_fault : LimitSet → MergedEntry → Option InputFault
value_fault limits e =
    if not (is_judged e.stanza) || is_good limits e.key e.value then None else Some (BadValue e.stanza e.key)

-- the fault of one entry: of a stanza itself, or of a value
abbrev pub fault_with : LimitSet → MergedEntry → List ℕ → Option InputFault
fault_with limits e [] = stanza_fault e.stanza
fault_with limits e (b ∷ key) = value_fault limits e

abbrev pub fault_at : LimitSet → MergedEntry → Option InputFault
fault_at limits e = fault_with limits e e.key

-- the first fault of entries, which stand in the order of stanza and key
abbrev pub first_fault : LimitSet → List MergedEntry → Option InputFault
first_fault limits [] = None
first_fault limits (e ∷ es) = option_or (fault_at limits e) (first_fault limits es)

-- a fault is answered where it is the first one; want of memory may be answered at any time
abbrev pub Refuses : Option InputFault → InputFault → Type 0
Refuses found (BadValue stanza key) = found ≡ Some (BadValue stanza key)
Refuses found (BadStanza stanza) = found ≡ Some (BadStanza stanza)
Refuses found NoMemory = Unit {0}

-- ---- inputs

abbrev pub is_disabled : List MergedEntry → List ℕ → Bool
is_disabled entries stanza = unwrap_or (option_and_then boolean (value_of entries stanza (codes "disabled"))) false

abbrev pub input : List MergedEntry → List ℕ → List ℕ → Input
input entries stanza path = record {
  path = path;
  host = unwrap_or (value_of entries stanza (codes "host")) (codes "localhost");
  source = value_of entries stanza (codes "source");
  sourcetype = value_of entries stanza (codes "sourcetype");
  index = value_of entries stanza (codes "index");
}

abbrev pub watched : List MergedEntry → List ℕ → Option (List ℕ) → List Input
watched entries stanza None = []
watched entries stanza (Some path) = if is_disabled entries stanza then [] else input entries stanza path ∷ []

-- what a stanza's own entry has watched
abbrev pub watched_with : List MergedEntry → MergedEntry → List ℕ → List Input
watched_with entries e [] = watched entries e.stanza (path_of e.stanza)
watched_with entries e (b ∷ key) = []

abbrev pub watched_at : List MergedEntry → MergedEntry → List Input
watched_at entries e = watched_with entries e e.key

-- stanza by stanza, in the order of their bytes
abbrev pub inputs : List MergedEntry → List Input
inputs entries = flat_map (watched_at entries) entries

-- What an input states of its events: names of at most 1,024 bytes, and an index that is configured.
pub record IsStated (limits : LimitSet) (input : Input) : Type 0 where
  pub host : length input.host ≤ 1024
  pub source : IfSome input.source (λ (name : List ℕ). length name ≤ 1024)
  pub sourcetype : IfSome input.sourcetype (λ (name : List ℕ). length name ≤ 1024)
  pub index : IfSome input.index (λ (name : List ℕ). is_some (limits_of limits name) ≡ true)
