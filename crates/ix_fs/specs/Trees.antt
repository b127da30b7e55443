-- A tree of files under paths, and its folders.
use Rattle.std.specs.Prelude.{◌≡◌, ◌≤◌, ◌<◌, ◌-◌, ◌==◌, if◌then◌else◌, ℕ, List, [], ◌∷◌, ◌++◌, length, take, drop, Option, None, Some}
use Rattle.std.specs.Prelude.{Result, IsErrOf, find, filter_map, Any, Contains, ◌↔◌}
use Rattle.std.specs.Option.{option_map}
use Rattle.std.specs.Str.{bytes_eq}
use Rattle.std.specs.List.Sorted.{IsStrictlySortedBy}
use Rattle.std.specs.declared.cmp.Ordering.{Ordering}
use Rattle.std.specs.declared.cmp.Ordering.TheVariants.{Less, Equal, Greater}
use Rattle.std.specs.Ordering.{nat_cmp}
use Rattle.std.specs.Cmp.Lexicographic.{slice_cmp}
use Rattle.ix_base.specs.Faults.{Rose}
use Rattle.ix_fs.specs.declared.trees.TreeFile.{TreeFile}
use Rattle.ix_fs.specs.declared.trees.TreeFault.{TreeFault}
use Rattle.ix_fs.specs.declared.trees.TreeFault.TheVariants.{Failed, Missing}

-- the bytes of the file at a path, if there is one
abbrev pub bytes_at : List TreeFile → List ℕ → Option (List ℕ)
bytes_at files path = option_map (λ (f : TreeFile). f.bytes) (find (λ (f : TreeFile). bytes_eq f.path path) files)

-- what the paths of the files below a folder begin with; the empty path is the folder of all
abbrev pub front_of : List ℕ → List ℕ
front_of [] = []
front_of (b ∷ folder) = (b ∷ folder) ++ 47 ∷ []

-- what stands in a path behind its first bytes, if these are its first bytes
abbrev pub behind : List ℕ → List ℕ → Option (List ℕ)
behind front path = if bytes_eq (take (length front) path) front then Some (drop (length front) path) else None

-- the bytes before the first slash
abbrev pub first_segment : List ℕ → List ℕ
first_segment [] = []
first_segment (b ∷ path) = if b == 47 then [] else b ∷ first_segment path

-- the name that stands directly in a folder, of a file below it
abbrev pub name_in : List ℕ → TreeFile → Option (List ℕ)
name_in front file = option_map first_segment (behind front file.path)

-- a name among names in ASCII order, each of which stands there once
abbrev pub beside : Ordering → List ℕ → List ℕ → List (List ℕ) → List (List ℕ) → List (List ℕ)
beside Less name other others further = name ∷ other ∷ others
beside Equal name other others further = other ∷ others
beside Greater name other others further = other ∷ further

abbrev pub with_name : List ℕ → List (List ℕ) → List (List ℕ)
with_name name [] = name ∷ []
with_name name (other ∷ others) = beside (slice_cmp nat_cmp name other) name other others (with_name name others)

abbrev pub in_order : List (List ℕ) → List (List ℕ)
in_order [] = []
in_order (name ∷ names) = with_name name (in_order names)

abbrev pub with_option : Option (List ℕ) → List (List ℕ) → List (List ℕ)
with_option None names = names
with_option (Some name) names = with_name name names

-- the names that stand directly in a folder, in ASCII order, each once
abbrev pub names_in : List TreeFile → List ℕ → List (List ℕ)
names_in files folder = in_order (filter_map (name_in (front_of folder)) files)

-- a file stands below the folder, and of its path behind the folder the bytes before the first
-- slash are the name
abbrev pub StandsIn : List TreeFile → List ℕ → List ℕ → Type 0
StandsIn files folder name =
    Any (λ (file : TreeFile). (rest : List ℕ) × (file.path ≡ front_of folder ++ rest) × (first_segment rest ≡ name)) files

-- The names in a folder are strictly ascending in ASCII order, and they are those that stand in it.
pub record IsNamesOf (files : List TreeFile) (folder : List ℕ) (names : List (List ℕ)) : Type 0 where
  pub ascending : IsStrictlySortedBy (slice_cmp nat_cmp) names
  pub exact : (name : List ℕ) → Contains names name ↔ StandsIn files folder name

abbrev pub NamesInOrder : Type 0
NamesInOrder = (files : List TreeFile) (folder : List ℕ) → IsNamesOf files folder (names_in files folder)

-- where a name that is missing belongs among the names
abbrev pub IsPlaceOf : Option ℕ → List ℕ → List (List ℕ) → Type 0
IsPlaceOf None name names = with_name name names ≡ names
IsPlaceOf (Some at) name names = (at ≤ length names) × (with_name name names ≡ take at names ++ name ∷ drop at names)

-- the file at a path has n bytes
abbrev pub HasSize : Option (List ℕ) → ℕ → Type 0
HasSize None n = ⊥
HasSize (Some bytes) n = n ≡ length bytes

-- n bytes of a file from a place on were read into a buffer: one at least where there is one and
-- there is room
pub record GivesAt (bytes : List ℕ) (at n : ℕ) (buf : List ℕ) : Type 0 where
  pub room : n ≤ length buf
  pub there : n ≤ length bytes - at
  pub read : take n buf ≡ take n (drop at bytes)
  pub some : 0 < length buf → at < length bytes → 0 < n

abbrev pub ReadsAt : Option (List ℕ) → ℕ → ℕ → List ℕ → Type 0
ReadsAt None at n buf = ⊥
ReadsAt (Some bytes) at n buf = GivesAt bytes at n buf

-- The counts never fall, and each of the two faults is answered only where its own count rose.
pub record HasTreeCause {T : Type 0} (faults faults' missing missing' : ℕ) (result : Result T TreeFault) : Type 0 where
  pub later : faults ≤ faults'
  pub later_missing : missing ≤ missing'
  pub failed : IsErrOf result Failed → Rose faults faults'
  pub absent : IsErrOf result Missing → Rose missing missing'
