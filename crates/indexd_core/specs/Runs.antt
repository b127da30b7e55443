-- A run of `preview`.
use Rattle.std.specs.Prelude.{◌⊎◌, ◌≡◌, ◌≤◌, ◌<◌, ◌^◌, ℕ, ℤ, Bool, true, false, List, length, Option}
use Rattle.ix_base.specs.Faults.{Rose}
use Rattle.ix_base.specs.Clocks.{Moments, Answered, clamped}
use Rattle.ix_base.specs.Told.{Told, Took, IsFrontOf, HasWritten, HasBegun}
use Rattle.ix_fs.specs.declared.trees.TreeFile.{TreeFile}
use Rattle.indexd_settings.specs.Faults.{HasFault}
use Rattle.indexd_settings.specs.Texts.{fault_line}
use Rattle.indexd_settings.specs.declared.faults.ConfigurationFault.{ConfigurationFault}
use Rattle.indexd_core.specs.Around.{Outside}
use Rattle.indexd_core.specs.Prepared.{Stated, IsPrepared, IsNotFound, not_found_line}
use Rattle.indexd_core.specs.declared.prepare.PreparedPreview.{PreparedPreview}
use Rattle.indexd_core.specs.Sides.{Side, IsAtEnd}
use Rattle.indexd_core.specs.Texts.{preview_text, status_text, Said}
use Rattle.indexd_core.specs.declared.status.Status.{Status}
use Rattle.indexd_core.specs.declared.status.Status.TheVariants.{Done, Memory, Usage, Configuration, Input, DiskFault, Damaged, Output}
use Rattle.indexd_core.specs.declared.status.Status.TheVariants.{ListenerFault, NotFound, TooManyChannels, Unreadable, Endless, Full}
use Rattle.indexd_core.specs.declared.status.Status.TheVariants.{InUse}

-- the lines of the events that bytes settle, of a stream that is open (false) or closed
abbrev pub Text : Type 0
Text = List ℕ → Bool → List ℕ

-- those of a preview whose clock showed this moment
abbrev pub text_of : PreparedPreview → ℤ → Text
text_of prepared shown = preview_text prepared (clamped shown)

-- how many bytes of input are taken at the most
abbrev pub input_limit : ℕ
input_limit = 2 ^ 40

-- What was written once these bytes were taken, before the line of the status. Done: the input is
-- at its end, and all lines were written. Memory: all lines that some first bytes of those taken
-- have settled. No line stands there in part. Input: reading failed, and all lines that the bytes
-- taken have settled were written. Output: writing failed, and a front of these lines was written,
-- or at the end of the input a front of all. Endless: the limit was taken, and all lines that the
-- bytes taken have settled were written.
abbrev pub Wrote : Status → Text → List ℕ → Side → Side → Side → Side → Type 0
Wrote Done text taken input input' output output' =
    IsAtEnd input' × (length taken < input_limit) × HasWritten (text taken true) output.told output'.told
Wrote Memory text taken input input' output output' =
    (shown : List ℕ) × IsFrontOf shown taken × HasWritten (text shown false) output.told output'.told
Wrote Usage text taken input input' output output' = ⊥
Wrote Configuration text taken input input' output output' = ⊥
Wrote Input text taken input input' output output' =
    Rose input.faults input'.faults × (length taken < input_limit) × HasWritten (text taken false) output.told output'.told
Wrote Output text taken input input' output output' =
    (closed : Bool) × (closed ≡ true → IsAtEnd input') × Rose output.faults output'.faults
    × HasBegun (text taken closed) output.told output'.told
Wrote NotFound text taken input input' output output' = ⊥
Wrote Endless text taken input input' output output' =
    (length taken ≡ input_limit) × HasWritten (text taken false) output.told output'.told
Wrote DiskFault text taken input input' output output' = ⊥
Wrote Damaged text taken input input' output output' = ⊥
Wrote ListenerFault text taken input input' output output' = ⊥
Wrote TooManyChannels text taken input input' output output' = ⊥
Wrote Unreadable text taken input input' output output' = ⊥
Wrote Full text taken input input' output output' = ⊥
Wrote InUse text taken input input' output output' = ⊥

-- a run, before the line of its status
pub record Runs (status : Status) (text : Text) (input input' output output' : Side) : Type 0 where
  pub taken : List ℕ
  pub took : Told (Took taken) input.told input'.told
  pub later : output.faults ≤ output'.faults
  pub outcome : Wrote status text taken input input' output output'

-- A run that was prepared: the clock is asked once, its answer is the moment at which all bytes
-- arrive, and behind the lines stands the line of the status, or a front of it where the output
-- failed.
pub record RunsPrepared (status : Status) (prepared : PreparedPreview) (ahead ahead' : Option Moments)
    (input input' output output' : Side) : Type 0 where
  pub shown : ℤ
  pub clock : Told (Answered shown) ahead ahead'
  pub middle : Side
  pub lines : Runs status (text_of prepared shown) input input' output middle
  pub line : Said (status_text status) middle output'
  pub later : middle.faults ≤ output'.faults

-- Nothing was read or asked but the tree, whose failures are counted before and after. At
-- `Configuration` the line of the first fault of the files was written, at `NotFound` that of the
-- index, which is stated and not configured.
abbrev pub WroteUnprepared : Status → Stated → Option (List TreeFile) → ℕ → ℕ → Side → Side → Type 0
WroteUnprepared Done stated files failed failed' output output' = ⊥
WroteUnprepared Memory stated files failed failed' output output' = Said (status_text Memory) output output'
WroteUnprepared Usage stated files failed failed' output output' = ⊥
WroteUnprepared Configuration stated files failed failed' output output' =
    (fault : ConfigurationFault) × HasFault files fault × Said (fault_line fault) output output'
WroteUnprepared Input stated files failed failed' output output' = Rose failed failed' × Said (status_text Input) output output'
WroteUnprepared Output stated files failed failed' output output' = ⊥
WroteUnprepared NotFound stated files failed failed' output output' =
    (index : List ℕ) × IsNotFound stated files index × Said (not_found_line index) output output'
WroteUnprepared Endless stated files failed failed' output output' = ⊥
WroteUnprepared DiskFault stated files failed failed' output output' = ⊥
WroteUnprepared Damaged stated files failed failed' output output' = ⊥
WroteUnprepared ListenerFault stated files failed failed' output output' = ⊥
WroteUnprepared TooManyChannels stated files failed failed' output output' = ⊥
WroteUnprepared Unreadable stated files failed failed' output output' = ⊥
WroteUnprepared Full stated files failed failed' output output' = ⊥
WroteUnprepared InUse stated files failed failed' output output' = ⊥

-- A whole run: it stops before it is prepared, or it runs with the settings that the files have for
-- what is stated.
pub data Previews (status : Status) (stated : Stated) (from to : Outside) : Type 0 where
  unprepared : to.ahead ≡ from.ahead → to.input ≡ from.input →
      WroteUnprepared status stated from.files from.failed to.failed from.output to.output → Previews status stated from to
  ran : (prepared : PreparedPreview) → IsPrepared stated from.files prepared →
      RunsPrepared status prepared from.ahead to.ahead from.input to.input from.output to.output → Previews status stated from to

-- The words were refused, or there was no room to read them: nothing was asked or read, and the
-- line of the status was written.
pub record Refuses (status : Status) (from to : Outside) : Type 0 where
  pub status_is : (status ≡ Usage) ⊎ (status ≡ Memory)
  pub tree_not_asked : to.failed ≡ from.failed
  pub not_asked : to.ahead ≡ from.ahead
  pub not_read : to.input ≡ from.input
  pub line : Said (status_text status) from.output to.output
