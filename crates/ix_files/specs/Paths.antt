-- The segments of a path.
use Rattle.std.specs.Prelude.{◌==◌, ◌-◌, if◌then◌else◌, suc, ℕ, Bool, List, [], ◌∷◌, take, drop}
use Rattle.std.specs.List.{list_any}

abbrev pub has_slash : List ℕ → Bool
has_slash path = list_any (λ c. c == 47) path

-- where the last segment begins: behind the last slash
abbrev pub segment_at : List ℕ → ℕ
segment_at [] = 0
segment_at (b ∷ path) = if has_slash (b ∷ path) then suc (segment_at path) else 0

-- up to the last slash and with it, and behind it
abbrev pub front_of : List ℕ → List ℕ
front_of path = take (segment_at path) path

abbrev pub segment_of : List ℕ → List ℕ
segment_of path = drop (segment_at path) path

-- the folder: the front without its last slash; the root is a slash alone
abbrev pub folder_size : ℕ → ℕ
folder_size size = if size == 1 then 1 else size - 1

abbrev pub folder_of : List ℕ → List ℕ
folder_of path = take (folder_size (segment_at path)) path
