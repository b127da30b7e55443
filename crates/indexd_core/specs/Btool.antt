-- What `btool` does.
use Rattle.std.specs.Prelude.{◌≡◌, ℕ, List, Option, Ok, Err}
use Rattle.ix_base.specs.Faults.{Rose}
use Rattle.ix_base.specs.Told.{HasWritten, HasBegun}
use Rattle.ix_fs.specs.declared.trees.TreeFile.{TreeFile}
use Rattle.ix_conf.specs.Value.{AreMerged}
use Rattle.ix_conf.specs.Listing.{listing}
use Rattle.ix_conf.specs.declared.layers.Layer.{Layer}
use Rattle.ix_conf.specs.declared.layers.MergedEntry.{MergedEntry}
use Rattle.indexd_settings.specs.Layers.{settings, refusal_text, ReadAs}
use Rattle.indexd_core.specs.Sides.{Side}
use Rattle.indexd_core.specs.Texts.{status_text, Said}
use Rattle.indexd_settings.specs.declared.layers.SettingsFile.{SettingsFile}
use Rattle.indexd_settings.specs.declared.layers.LayerFault.{LayerFault}
use Rattle.indexd_core.specs.declared.status.Status.{Status}
use Rattle.indexd_core.specs.declared.status.Status.TheVariants.{Done, Memory, Usage, Configuration, Input, DiskFault, Damaged, Output}
use Rattle.indexd_core.specs.declared.status.Status.TheVariants.{ListenerFault, NotFound, TooManyChannels, Unreadable, Endless, Full}
use Rattle.indexd_core.specs.declared.status.Status.TheVariants.{InUse}

-- the listing of layers
pub record Lists (layers : List Layer) (text : List ℕ) : Type 0 where
  pub entries : List MergedEntry
  pub merged : AreMerged layers entries
  pub text_is : text ≡ listing entries

-- the layers of the file have no fault, and this is their listing
pub record HasListing (file : SettingsFile) (files : Option (List TreeFile)) (text : List ℕ) : Type 0 where
  pub layers : List Layer
  pub read : ReadAs files (λ all. settings all file) (Ok layers)
  pub lists : Lists layers text

-- The listing of the file was written; at `Configuration` the line of the first fault in its
-- layers, and nothing else. A tree that failed, want of memory and an output that failed are known
-- by their status. The two numbers are how often the tree had failed before and after.
abbrev pub Tells : Status → SettingsFile → Option (List TreeFile) → ℕ → ℕ → Side → Side → Type 0
Tells Done file files failed failed' output output' =
    (text : List ℕ) × HasListing file files text × HasWritten text output.told output'.told
Tells Memory file files failed failed' output output' = Said (status_text Memory) output output'
Tells Usage file files failed failed' output output' = ⊥
Tells Configuration file files failed failed' output output' =
    (refusal : LayerFault) × ReadAs files (λ all. settings all file) (Err refusal) × Said (refusal_text file refusal) output output'
Tells Input file files failed failed' output output' = Rose failed failed' × Said (status_text Input) output output'
Tells Output file files failed failed' output output' =
    (text : List ℕ) × HasListing file files text × Rose output.faults output'.faults × HasBegun text output.told output'.told
Tells NotFound file files failed failed' output output' = ⊥
Tells Endless file files failed failed' output output' = ⊥
Tells DiskFault file files failed failed' output output' = ⊥
Tells Damaged file files failed failed' output output' = ⊥
Tells ListenerFault file files failed failed' output output' = ⊥
Tells TooManyChannels file files failed failed' output output' = ⊥
Tells Unreadable file files failed failed' output output' = ⊥
Tells Full file files failed failed' output output' = ⊥
Tells InUse file files failed failed' output output' = ⊥

-- the line of a fault was written, or there was no room for it
abbrev pub RefusalSaid : Status → SettingsFile → LayerFault → Side → Side → Type 0
RefusalSaid Done file refusal output output' = ⊥
RefusalSaid Memory file refusal output output' = Said (status_text Memory) output output'
RefusalSaid Usage file refusal output output' = ⊥
RefusalSaid Configuration file refusal output output' = Said (refusal_text file refusal) output output'
RefusalSaid Input file refusal output output' = ⊥
RefusalSaid Output file refusal output output' = ⊥
RefusalSaid NotFound file refusal output output' = ⊥
RefusalSaid Endless file refusal output output' = ⊥
RefusalSaid DiskFault file refusal output output' = ⊥
RefusalSaid Damaged file refusal output output' = ⊥
RefusalSaid ListenerFault file refusal output output' = ⊥
RefusalSaid TooManyChannels file refusal output output' = ⊥
RefusalSaid Unreadable file refusal output output' = ⊥
RefusalSaid Full file refusal output output' = ⊥
RefusalSaid InUse file refusal output output' = ⊥
