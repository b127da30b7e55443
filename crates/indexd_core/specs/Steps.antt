-- What the steps of a preview keep. `input` and `output` are as a run found them, `input'` and
-- `output'` as a step left them.
use Rattle.std.specs.Prelude.{◌≡◌, ◌<◌, ℕ, ℤ, Bool, true, false, List, ◌++◌, length}
use Rattle.ix_base.specs.Faults.{Rose}
use Rattle.ix_base.specs.Stream.{dated}
use Rattle.ix_base.specs.Clocks.{clamped}
use Rattle.ix_base.specs.Told.{Told, Took, HasWritten, HasBegun}
use Rattle.ix_parse.specs.Standing.{StandsFor}
use Rattle.indexd_core.specs.Sides.{Side, IsAtEnd}
use Rattle.indexd_core.specs.Runs.{Text, text_of, input_limit}
use Rattle.indexd_core.specs.declared.prepare.PreparedPreview.{PreparedPreview}
use Rattle.indexd_core.specs.declared.preview.Preview.{Preview}
use Rattle.indexd_core.specs.declared.preview.Stop.{Stop}
use Rattle.indexd_core.specs.declared.preview.Stop.TheVariants.{Memory, Input, Output}

-- the channel has taken in these bytes, all at this moment, and the writer prints events by these
-- limits
pub record Holds (prepared : PreparedPreview) (taken : List ℕ) (preview : Preview) : Type 0 where
  pub channel : StandsFor prepared.settings prepared.meta (dated taken (clamped preview.moment)) preview.channel
  pub limits : preview.events.limits ≡ prepared.limits

-- these bytes were taken in and the lines that they settle written
pub record IsAt (prepared : PreparedPreview) (input output : Side) (taken : List ℕ) (preview : Preview) (input' output' : Side) : Type 0
  where
    pub holds : Holds prepared taken preview
    pub took : Told (Took taken) input.told input'.told
    pub written : HasWritten (text_of prepared preview.moment taken false) output.told output'.told

-- More bytes were taken in: whatever the run has come from, it has come so far.
pub record Advances (more : List ℕ) (old new : Preview) (input input' output output' : Side) : Type 0 where
  pub at : (prepared : PreparedPreview) (input₀ output₀ : Side) (taken : List ℕ) →
      IsAt prepared input₀ output₀ taken old input output → IsAt prepared input₀ output₀ (taken ++ more) new input' output'
  pub moment : new.moment ≡ old.moment

-- more bytes were read, and the run stopped before their lines were written
pub record StopsUnwritten (input input' output output' : Side) : Type 0 where
  pub more : List ℕ
  pub took : Told (Took more) input.told input'.told
  pub same : output'.told ≡ output.told

-- more bytes were read, and the run stopped while their lines were written
pub record StopsWriting (preview : Preview) (input input' output output' : Side) : Type 0 where
  pub more : List ℕ
  pub took : Told (Took more) input.told input'.told
  pub begun : (prepared : PreparedPreview) (input₀ output₀ : Side) (taken : List ℕ) →
      IsAt prepared input₀ output₀ taken preview input output →
      HasBegun (text_of prepared preview.moment (taken ++ more) false) output₀.told output'.told

-- why a step stopped, and what it left
abbrev pub StepStops : Stop → Preview → Side → Side → Side → Side → Type 0
StepStops Memory preview input input' output output' = StopsUnwritten input input' output output'
StepStops Input preview input input' output output' =
    Rose input.faults input'.faults × (input'.told ≡ input.told) × (output'.told ≡ output.told)
StepStops Output preview input input' output output' =
    Rose output.faults output'.faults × StopsWriting preview input input' output output'

-- the input came to its end within the limit, or the limit was taken
abbrev pub CameToEnd : Bool → List ℕ → Side → Type 0
CameToEnd true taken input = (length taken < input_limit) × IsAtEnd input
CameToEnd false taken input = length taken ≡ input_limit

-- all that is to be read was taken in, and the lines that it settles were written
pub record ReadsAll (ended : Bool) (prepared : PreparedPreview) (new : Preview) (input input' output output' : Side) : Type 0 where
  pub taken : List ℕ
  pub at : IsAt prepared input output taken new input' output'
  pub end : CameToEnd ended taken input'

-- bytes were taken in and their lines written, and then more bytes read
pub record StopsForMemory (text : Text) (input input' output output' : Side) : Type 0 where
  pub taken : List ℕ
  pub more : List ℕ
  pub took : Told (Took (taken ++ more)) input.told input'.told
  pub written : HasWritten (text taken false) output.told output'.told

-- bytes were taken in and their lines written, and then reading failed
pub record StopsReading (text : Text) (input input' output output' : Side) : Type 0 where
  pub taken : List ℕ
  pub took : Told (Took taken) input.told input'.told
  pub within : length taken < input_limit
  pub written : HasWritten (text taken false) output.told output'.told

-- bytes were taken in, and writing their lines failed
pub record StopsInLines (text : Text) (input input' output output' : Side) : Type 0 where
  pub taken : List ℕ
  pub took : Told (Took taken) input.told input'.told
  pub begun : HasBegun (text taken false) output.told output'.told

-- why reading all stopped, and what it left
abbrev pub RunStops : Stop → Text → Side → Side → Side → Side → Type 0
RunStops Memory text input input' output output' = StopsForMemory text input input' output output'
RunStops Input text input input' output output' = Rose input.faults input'.faults × StopsReading text input input' output output'
RunStops Output text input input' output output' = Rose output.faults output'.faults × StopsInLines text input input' output output'

-- what the end of the input settles was written behind what stood there
abbrev pub EndsAll : Preview → Side → Side → Type 0
EndsAll preview output output' = (prepared : PreparedPreview) (input₀ output₀ input : Side) (taken : List ℕ) →
    IsAt prepared input₀ output₀ taken preview input output →
    HasWritten (text_of prepared preview.moment taken true) output₀.told output'.told

-- a front of it was
abbrev pub EndsPart : Preview → Side → Side → Type 0
EndsPart preview output output' = (prepared : PreparedPreview) (input₀ output₀ input : Side) (taken : List ℕ) →
    IsAt prepared input₀ output₀ taken preview input output →
    HasBegun (text_of prepared preview.moment taken true) output₀.told output'.told

-- why writing that stopped
abbrev pub EndStops : Stop → Preview → Side → Side → Type 0
EndStops Memory preview output output' = output'.told ≡ output.told
EndStops Input preview output output' = ⊥
EndStops Output preview output output' = Rose output.faults output'.faults × EndsPart preview output output'
