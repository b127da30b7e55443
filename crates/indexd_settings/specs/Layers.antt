-- The files of settings, and the layers in which they stand over one another.
use Rattle.std.specs.Prelude.{if◌then◌else◌, bytes_eq, ◌≡◌, ◌<◌, ℕ, List, [], ◌∷◌, ◌++◌, length, drop, map, codes, Option, Some, None}
use Rattle.std.specs.Prelude.{IfSome, Result, Ok, Err}
use Rattle.ix_base.specs.Faults.{Rose}
use Rattle.ix_fs.specs.Trees.{bytes_at, names_in}
use Rattle.ix_fs.specs.declared.trees.TreeFile.{TreeFile}
use Rattle.ix_fs.specs.declared.trees.TreeFault.{TreeFault}
use Rattle.ix_fs.specs.declared.trees.TreeFault.TheVariants.{Failed, Missing, NoMemory as no_memory}
use Rattle.ix_conf.specs.Grammar.{pairs}
use Rattle.ix_conf.specs.Zones.{zone_entries, zones}
use Rattle.ix_conf.specs.declared.entries.Entry.{Entry}
use Rattle.ix_conf.specs.FaultText.{fault_text}
use Rattle.ix_conf.specs.declared.entries.ConfFault.{ConfFault}
use Rattle.ix_conf.specs.declared.layers.Layer.{Layer}
use Rattle.indexd_settings.specs.declared.layers.SettingsFile.{SettingsFile}
use Rattle.indexd_settings.specs.declared.layers.SettingsFile.TheVariants.{Props, Transforms, Indexes, Inputs, Zones}
use Rattle.indexd_settings.specs.declared.layers.LayerFault.{LayerFault}
use Rattle.indexd_settings.specs.declared.layers.LayerStop.{LayerStop}
use Rattle.indexd_settings.specs.declared.layers.LayerStop.TheVariants.{Memory, Input, Refused}

abbrev pub file_name : SettingsFile → List ℕ
file_name Props = codes "props"
file_name Transforms = codes "transforms"
file_name Indexes = codes "indexes"
file_name Inputs = codes "inputs"
file_name Zones = codes "zones"

-- the file of this name
abbrev pub file_named : List ℕ → Option SettingsFile
file_named name =
    if bytes_eq name (codes "props") then Some Props
    else if bytes_eq name (codes "transforms") then Some Transforms
    else if bytes_eq name (codes "indexes") then Some Indexes
    else if bytes_eq name (codes "inputs") then Some Inputs
    else if bytes_eq name (codes "zones") then Some Zones
    else None

-- where the file of a layer stands
abbrev pub path_in : List ℕ → SettingsFile → List ℕ
path_in layer file = layer ++ codes "/" ++ file_name file ++ codes ".conf"

-- the layers of this kind of the apps
abbrev pub app_layer : List ℕ → List ℕ → List ℕ
app_layer kind app = codes "etc/apps/" ++ app ++ kind

-- The layers that have a file, highest first: what the system says before what each app does, and
-- all that was said here before what came with it.
abbrev pub layer_names : List (List ℕ) → List (List ℕ)
layer_names apps =
    codes "etc/system/local" ∷ map (app_layer (codes "/local")) apps
    ++ map (app_layer (codes "/default")) apps ++ codes "etc/system/default" ∷ []

-- those of a tree
abbrev pub folders_of : List TreeFile → List (List ℕ)
folders_of files = layer_names (names_in files (codes "etc/apps"))

abbrev pub or_empty : Option (List ℕ) → List ℕ
or_empty None = []
or_empty (Some bytes) = bytes

-- what stands at a path; a file that is not there is empty
abbrev pub text_at : List TreeFile → List ℕ → List ℕ
text_at files path = or_empty (bytes_at files path)

-- the layer of these entries, or their fault in this layer
abbrev pub in_layer : List ℕ → Result (List Entry) ConfFault → Result Layer LayerFault
in_layer name (Ok entries) = Ok (record { name = name; file = entries })
in_layer name (Err fault) = Err (record { layer = name; fault = fault })

abbrev pub layer_read : List TreeFile → SettingsFile → List ℕ → Result Layer LayerFault
layer_read files file name = in_layer name (pairs (text_at files (path_in name file)))

-- layers before others; the first fault stays
abbrev pub before : Result Layer LayerFault → Result (List Layer) LayerFault → Result (List Layer) LayerFault
before (Err refusal) others = Err refusal
before (Ok layer) (Err refusal) = Err refusal
before (Ok layer) (Ok layers) = Ok (layer ∷ layers)

abbrev pub layers_read : List TreeFile → SettingsFile → List (List ℕ) → Result (List Layer) LayerFault
layers_read files file [] = Ok []
layers_read files file (name ∷ names) = before (layer_read files file name) (layers_read files file names)

-- those that the files of a tree alone have, highest first
abbrev pub of_files : List TreeFile → SettingsFile → Result (List Layer) LayerFault
of_files files file = layers_read files file (folders_of files)

-- a layer that the grammar makes of a text
abbrev pub IsOfText : Layer → Type 0
IsOfText layer = (text : List ℕ) × (pairs text ≡ Ok layer.file)

-- what is known without any file: the zones
abbrev pub built_in : SettingsFile → List Layer
built_in Props = []
built_in Transforms = []
built_in Indexes = []
built_in Inputs = []
built_in Zones = record { name = codes "built-in"; file = zone_entries zones } ∷ []

abbrev pub followed_by : List Layer → Result (List Layer) LayerFault → Result (List Layer) LayerFault
followed_by last (Err refusal) = Err refusal
followed_by last (Ok layers) = Ok (layers ++ last)

abbrev pub led_by : List Layer → Result (List Layer) LayerFault → Result (List Layer) LayerFault
led_by first (Err refusal) = Err refusal
led_by first (Ok layers) = Ok (first ++ layers)

-- The layers of a file, highest first, or the first fault in them.
abbrev pub settings : List TreeFile → SettingsFile → Result (List Layer) LayerFault
settings files file = followed_by (built_in file) (of_files files file)

-- the line of a fault
abbrev pub refusal_text : SettingsFile → LayerFault → List ℕ
refusal_text file refusal = codes "indexd: configuration: " ++ path_in refusal.layer file ++ fault_text refusal.fault ++ codes "\n"

-- Where the tree tells its files, what was read is what they say.
abbrev pub ReadAs : {X : Type 0} → Option (List TreeFile) → (List TreeFile → Result X LayerFault) → Result X LayerFault → Type 0
ReadAs files read result = IfSome files (λ all. read all ≡ result)

-- the fault is the one that was found; no other stop says anything
abbrev pub LayerRefused : {X : Type 0} → LayerStop → Result X LayerFault → Type 0
LayerRefused Memory found = Unit {0}
LayerRefused Input found = ⊥
LayerRefused (Refused refusal) found = found ≡ Err refusal

-- why reading stopped: want of memory, a tree that failed, or a fault that the file has
abbrev pub LayerStops : {X : Type 0} → LayerStop → ℕ → ℕ → Option (List TreeFile) → (List TreeFile → Result X LayerFault) → Type 0
LayerStops Memory faults faults' files read = Unit {0}
LayerStops Input faults faults' files read = Rose faults faults'
LayerStops (Refused refusal) faults faults' files read = ReadAs files read (Err refusal)

abbrev pub Reads : {X : Type 0} → Result X LayerStop → ℕ → ℕ → Option (List TreeFile) → (List TreeFile → Result X LayerFault) → Type 0
Reads (Ok x) faults faults' files read = ReadAs files read (Ok x)
Reads (Err stop) faults faults' files read = LayerStops stop faults faults' files read

-- the text is the first bytes of what stands at a path
abbrev pub IsBegun : Option (List TreeFile) → List ℕ → List ℕ → Type 0
IsBegun files path text = IfSome files (λ all. text_at all path ≡ text ++ drop (length text) (text_at all path))

-- how many bytes a file of settings has at the most
abbrev pub longest_file : ℕ
longest_file = 1048576

-- the text at a path, or that it has more bytes than such a file
abbrev pub IsTextOr : Option (List ℕ) → List ℕ → Type 0
IsTextOr None bytes = longest_file < length bytes
IsTextOr (Some text) bytes = text ≡ bytes

-- why a failed tree stops the reading
abbrev pub stop_of : TreeFault → LayerStop
stop_of Failed = Input
stop_of Missing = Input
stop_of no_memory = Memory
