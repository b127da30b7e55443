-- Which files a pass visits, in the order in which it visits them.
use Rattle.std.specs.Prelude.{◌≡◌, ◌≤◌, ◌==◌, ◌&&◌, nat_le, not, ℕ, Bool, true, false, if◌then◌else◌, List, [], ◌∷◌, ◌++◌, length, map}
use Rattle.std.specs.Prelude.{filter, is_some, unwrap_or, bytes_eq, Contains}
use Rattle.std.specs.List.{list_any, AllByRecursion}
use Rattle.ix_conf.specs.Stars.{fits_stars}
use Rattle.ix_fs.specs.declared.trees.TreeFile.{TreeFile}
use Rattle.ix_fs.specs.Trees.{bytes_at, names_in}
use Rattle.ix_monitor.specs.declared.inputs.Input.{Input}
use Rattle.ix_monitor.specs.declared.watched.Watched.{Watched}
use Rattle.ix_files.specs.Paths.{front_of, segment_of, folder_of}

-- ---- the paths of an input

abbrev pub has_star : List ℕ → Bool
has_star path = list_any (λ c. c == 42) path

-- those of the names in its folder that fit its last segment
abbrev pub fitting_of : List ℕ → List (List ℕ) → List (List ℕ)
fitting_of path names = map (λ (name : List ℕ). front_of path ++ name) (filter (fits_stars (segment_of path)) names)

abbrev pub fitting : List TreeFile → List ℕ → List (List ℕ)
fitting files path = fitting_of path (names_in files (folder_of path))

abbrev pub paths_of : List TreeFile → List ℕ → List (List ℕ)
paths_of files path = if has_star path then fitting files path else path ∷ []

-- a path is one of an input's
abbrev pub is_of : List ℕ → Input → Bool
is_of path input = bytes_eq (front_of path) (front_of input.path) && fits_stars (segment_of input.path) (segment_of path)

-- ---- files

-- longer paths are passed over
abbrev pub is_short : List ℕ → Bool
is_short path = nat_le (length path) 4096

-- a file that an earlier input has is that input's
abbrev pub is_taken : List TreeFile → List Input → List ℕ → Bool
is_taken files earlier path = list_any (is_of path) earlier && is_some (bytes_at files path)

abbrev pub is_sought : List TreeFile → List Input → List ℕ → Bool
is_sought files earlier path = is_short path && not (is_taken files earlier path)

-- what its channel states of its events
abbrev pub watched : Input → List ℕ → Watched
watched input path = record {
  path = path;
  meta = record { host = input.host; source = unwrap_or input.source path; sourcetype = input.sourcetype; index = input.index };
  named = not (has_star input.path);
}

abbrev pub sought_at : List TreeFile → List Input → Input → List (List ℕ) → List Watched
sought_at files earlier input paths = map (watched input) (filter (is_sought files earlier) paths)

-- the files of an input that no earlier one has
abbrev pub sought_in : List TreeFile → List Input → Input → List Watched
sought_in files earlier input = sought_at files earlier input (paths_of files input.path)

-- input by input
abbrev pub sought_from : List TreeFile → List Input → List Input → List Watched
sought_from files earlier [] = []
sought_from files earlier (input ∷ inputs) = sought_in files earlier input ++ sought_from files (earlier ++ input ∷ []) inputs

abbrev pub sought : List TreeFile → List Input → List Watched
sought files inputs = sought_from files [] inputs

-- ---- files of any tree, also of one that does not tell its files

-- a path that an input gives: its own, or where that has a `*` one in its folder whose name fits
abbrev pub IsPathBy : Bool → List ℕ → List ℕ → Type 0
IsPathBy false own path = path ≡ own
IsPathBy true own path = (name : List ℕ) × (path ≡ front_of own ++ name) × (fits_stars (segment_of own) name ≡ true)

abbrev pub IsPathOf : Input → List ℕ → Type 0
IsPathOf input path = IsPathBy (has_star input.path) input.path path

-- A file that an input has watched, with what the input states of it.
pub record IsFileBy (input : Input) (file : Watched) : Type 0 where
  pub path : IsPathOf input file.path
  pub short : length file.path ≤ 4096
  pub is : file ≡ watched input file.path

-- One that some input of several has watched.
pub record IsFileOf (inputs : List Input) (file : Watched) : Type 0 where
  pub input : Input
  pub among : Contains inputs input
  pub has : IsFileBy input file

-- Further files of an input stand behind those that were there.
pub record Adds (input : Input) (files files' : List Watched) : Type 0 where
  pub more : List Watched
  pub own : AllByRecursion (IsFileBy input) more
  pub behind : files' ≡ files ++ more
