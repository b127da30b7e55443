-- The body of a log that says an item of which no state comes.
use Rattle.std.specs.Prelude.{◌≡◌, ◌⊎◌, ℕ, Bool, true, false, List, [], ◌∷◌, ◌++◌, length, Option, Some, None}
use Rattle.std.specs.List.{AllByRecursion, list_any}
use Rattle.ix_base.specs.declared.files.File.{File}
use Rattle.ix_items.specs.declared.items.Item.{Item}
use Rattle.ix_items.specs.declared.items.Item.TheVariants as items
use Rattle.ix_items.specs.declared.items.Kept.{Kept}
use Rattle.ix_disk.specs.Image.{Image, bytes_in}
use Rattle.ix_log.specs.Log.{blocks}
use Rattle.ix_manifest.specs.Book.{Name, NamedItems, named, name_of, is_same, empty, replay, IsBody}
use Rattle.ix_manifest.specs.Root.{current}
use Rattle.ix_manifest.specs.declared.manifest_state.ReplayFault.{ReplayFault}
use Rattle.ix_manifest.specs.declared.manifest_state.ReplayFault.TheVariants as replays
use Rattle.ix_commit.specs.Mounting.{IsBadLog}
use Rattle.ix_commit.specs.Reads.{LeadsTo}
use Rattle.ix_store.specs.declared.fault.MountFault.{MountFault}
use Rattle.ix_store.specs.declared.fault.MountFault.TheVariants as faults
use Rattle.ix_store.specs.declared.faulty_item.FaultyItem.{FaultyItem}
use Rattle.ix_store.specs.declared.faulty_item.FaultyItem.TheVariants as subjects

-- ---- names

abbrev pub settings_name : Name
settings_name = named 1 [] 0

abbrev pub channel_name : List ℕ → Name
channel_name name = named 4 name 0

-- the name that the item of the subject stands under
abbrev pub name_in : FaultyItem → Name
name_in subjects.Settings = settings_name
name_in (subjects.Channel name) = channel_name name

abbrev pub is_under : Name → Item → Bool
is_under name item = is_same (name_of item) name

abbrev pub kept_of : Option Item → List Kept
kept_of None = []
kept_of (Some (items.Settings kept)) = kept
kept_of (Some other) = []

-- the settings that a book keeps
abbrev pub kept_in : NamedItems → List Kept
kept_in book = kept_of (book settings_name)

-- ---- bodies

-- an item of the body stands under the name, or none does
abbrev pub Says : Bool → Name → List ℕ → Type 0
Says some name body = (items : List Item) → IsBody items body → list_any (is_under name) items ≡ some

-- Of these bodies the one at this gate is the last of which an item stands under the name.
pub record IsLast (name : Name) (at : ℕ) (bodies : List (List ℕ)) : Type 0 where
  pub before : List (List ℕ)
  pub body : List ℕ
  pub after : List (List ℕ)
  pub split : bodies ≡ before ++ body ∷ after
  pub place : at ≡ length (blocks before)
  pub says : Says true name body
  pub none : AllByRecursion (Says false name) after

-- the gate is that of the last such body, where there is one
abbrev pub IsFound : Name → ℕ → List (List ℕ) → Type 0
IsFound name at bodies = AllByRecursion (Says false name) bodies ⊎ IsLast name at bodies

-- And this is the item that it leaves there.
pub record IsLastSaid (name : Name) (item : Item) (at : ℕ) (bodies : List (List ℕ)) : Type 0 where
  pub before : List (List ℕ)
  pub body : List ℕ
  pub after : List (List ℕ)
  pub split : bodies ≡ before ++ body ∷ after
  pub place : at ≡ length (blocks before)
  pub items : List Item
  pub is : IsBody items body
  pub said : replay items empty name ≡ Some item
  pub none : AllByRecursion (Says false name) after

-- ---- images

-- the item of the subject is one of which no state comes, by the settings that the book keeps
abbrev pub IsBadIn : (List Kept → Item → Type 0) → FaultyItem → NamedItems → Type 0
IsBadIn gives_none subject book = (item : Item) × (book (name_in subject) ≡ Some item) × gives_none (kept_in book) item

-- All bodies of the current log count. The one at this gate is the last that says settings, or a
-- channel, and no state comes of what it says, by the settings that are kept.
pub record HasBadItem (fits : NamedItems → Type 0) (gives_none : List Kept → Item →
    Type 0) (file : File) (at : ℕ) (image : Image) : Type 0 where
  pub book : NamedItems
  pub leads : LeadsTo fits book image
  pub file_is : file ≡ current leads.checkpoints
  pub subject : FaultyItem
  pub item : Item
  pub said : IsLastSaid (name_in subject) item at leads.bodies
  pub none : gives_none (kept_in book) item

-- What a mount's fault at a gate says of the image that was read: a body is bad there, or what it
-- says gives no state.
abbrev pub IsBadStore : (NamedItems → Type 0) → (List Kept → Item → Type 0) → File → ℕ → Image → Type 0
IsBadStore fits gives_none file at image = IsBadLog fits file at image ⊎ HasBadItem fits gives_none file at image

-- ---- faults

-- a body that was looked for, and found or not
abbrev pub blamed : File → ReplayFault → MountFault
blamed file replays.Disk = faults.Disk
blamed file (replays.Damaged at) = faults.Damaged file at
blamed file replays.NoMemory = faults.NoMemory
