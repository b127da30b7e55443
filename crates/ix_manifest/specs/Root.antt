-- The root log says which log is the current one: each number in it is one more than the one
-- before, and the first is 2.
use Rattle.std.specs.Prelude.{◌≡◌, ◌≢◌, ◌⊎◌, ◌<◌, ◌+◌, ◌^◌, ℕ, zero, suc, List, [], ◌∷◌, ◌++◌, length, All}
use Rattle.std.specs.Int.{to_be_bytes, w64}
use Rattle.ix_base.specs.declared.files.Area.TheVariants.{Meta}
use Rattle.ix_base.specs.declared.files.File.{File}
use Rattle.ix_manifest.specs.Book.{NamedItems, removals_in}
use Rattle.ix_log.specs.Log.{IsCut, blocks}

-- the files of the logs: the root's is number 0
abbrev pub log_file : ℕ → File
log_file n = record { area = Meta; number = n }

-- the root log after so many checkpoints
abbrev pub roots : ℕ → List (List ℕ)
roots zero = []
roots (suc k) = roots k ++ to_be_bytes w64 (k + 2) ∷ []

-- the current log then: the one of the last number, or the first where there is none
abbrev pub current : ℕ → File
current checkpoints = log_file (checkpoints + 1)

-- neither the root log nor the one that is given
abbrev pub IsNoLog : File → File → Type 0
IsNoLog log file = (file ≢ log_file 0) × (file ≢ log)

-- A book that is taken: the state above says that it fits, and its removals name no log that
-- counts.
pub record Taken (fits : NamedItems → Type 0) (log : File) (book : NamedItems) : Type 0 where
  pub fit : fits book
  pub apart : All (IsNoLog log) (removals_in book)

-- Behind these numbers stands a whole body that is not the next number.
pub record HasBadNumber (checkpoints : ℕ) (file : List ℕ) : Type 0 where
  pub body : List ℕ
  pub rest : List ℕ
  pub spelled : file ≡ blocks (roots checkpoints ++ body ∷ []) ++ rest
  pub short : length body < 2 ^ 32
  pub refused : body ≢ to_be_bytes w64 (checkpoints + 2)

-- The root log is good up to this gate, and what stands at it is cut, or not the next number.
pub record IsBadRoot (at : ℕ) (file : List ℕ) : Type 0 where
  pub checkpoints : ℕ
  pub place : at ≡ length (blocks (roots checkpoints))
  pub bad : IsCut (roots checkpoints) file ⊎ HasBadNumber checkpoints file
