-- Where the reading of the five files stops.
use Rattle.std.proofs.Common.{◌≡◌, ◌≤◌, ℕ, List, ◌++◌, refl, sym, subst, ap, inl, inr, arith, Option, Some, None, IfSome, Result, Ok, Err}
use Rattle.std.specs.List.{AllByRecursion}
use Rattle.ix_base.specs.Faults.{Rose}
use Rattle.ix_fs.specs.declared.trees.TreeFile.{TreeFile}
use Rattle.ix_conf.specs.Value.{AreMerged}
use Rattle.ix_conf.specs.declared.layers.Layer.{Layer}
use Rattle.ix_conf.specs.declared.layers.MergedEntry.{MergedEntry}
use Rattle.indexd_settings.specs.Layers.{settings, of_files, built_in, followed_by, layers_read, folders_of, IsOfText, ReadAs, LayerStops}
use Rattle.indexd_settings.specs.Merged.{IsMergedOf, AreMergedFiles, AreZonesOf}
use Rattle.indexd_settings.specs.Faults.{IsSound, AreSoundBefore, IsFaultIn, HasFault, StopsIn, Stops, stop_in}
use Rattle.indexd_settings.specs.declared.layers.LayerStop.{LayerStop}
use Rattle.indexd_settings.specs.declared.layers.LayerStop.TheVariants as layers
use Rattle.indexd_settings.specs.declared.layers.LayerFault.{LayerFault}
use Rattle.indexd_settings.specs.declared.layers.SettingsFile.{SettingsFile}
use Rattle.indexd_settings.specs.declared.layers.SettingsFile.TheVariants.{Props, Transforms, Indexes, Inputs, Zones}
use Rattle.indexd_settings.specs.declared.merged.MergedFiles.{MergedFiles}
use Rattle.indexd_settings.specs.declared.faults.ConfigurationFault.{ConfigurationFault}
use Rattle.indexd_settings.specs.declared.faults.ConfigurationFault.TheVariants as faults
use Rattle.indexd_settings.specs.declared.faults.ConfigurationStop.{ConfigurationStop}
use Rattle.indexd_settings.specs.declared.faults.ConfigurationStop.TheVariants as stops

-- a count that rose later has risen since
rose-since : (a b c : ℕ) → a ≤ b → Rose b c → Rose a c
rose-since a b c le (inl lt) = inl (omega arith)
rose-since a b c le (inr full) = inr full

-- a fault of one file is the first one where the files before it have none
is-first : (file : SettingsFile) (fault : ConfigurationFault) (files : Option (List TreeFile)) → AreSoundBefore files file →
    IsFaultIn file files fault → HasFault files fault
is-first file (faults.File file' refusal) files sound found = (
  subst (λ (f : SettingsFile). AreSoundBefore files f) (sym found.0) sound,
  subst (λ (f : SettingsFile). ReadAs files (λ all. settings all f) (Err refusal)) (sym found.0) found.1,
)
is-first file (faults.Props why) files sound found = absurd found
is-first file (faults.Indexes why) files sound found = absurd found

-- reading stopped in one file, and so did the reading of all
pub all-stop : (file : SettingsFile) (stop : ConfigurationStop) (before failed failed' : ℕ) (files : Option (List TreeFile)) →
    before ≤ failed →
    AreSoundBefore files file → StopsIn file stop failed failed' files → Stops stop before failed' files
all-stop file stops.Memory before failed failed' files later sound stop = tt
all-stop file stops.Input before failed failed' files later sound stop = rose-since before failed failed' later stop
all-stop file (stops.Refused fault) before failed failed' files later sound stop = is-first file fault files sound stop

-- ---- one file

abbrev AreFolders : Option (List TreeFile) → List (List ℕ) → Type 0
AreFolders files folders = IfSome files (λ all. folders ≡ folders_of all)

-- what was read in the folders of the layers was read of the files
read_of : (files : Option (List TreeFile)) (file : SettingsFile) (folders : List (List ℕ)) (found : Result (List Layer) LayerFault) →
    AreFolders files folders →
    ReadAs files (λ all. layers_read all file folders) found → ReadAs files (λ all. of_files all file) found
read_of None file folders found told read = tt
read_of (Some all) file folders found told read = subst (λ (f : List (List ℕ)). layers_read all file f ≡ found) told read

-- behind it stands what is known without any file
followed : (files : Option (List TreeFile)) (file : SettingsFile) (found : Result (List Layer) LayerFault) →
    ReadAs files (λ all. of_files all file) found → ReadAs files (λ all. settings all file) (followed_by (built_in file) found)
followed None file found read = tt
followed (Some all) file found read = ap (λ (r : Result (List Layer) LayerFault). followed_by (built_in file) r) read

-- a file was merged
pub is-merged : (files : Option (List TreeFile)) (file : SettingsFile) (folders : List (List ℕ)) (found all : List Layer)
    (entries : List MergedEntry) →
    ReadAs files (λ all. layers_read all file folders) (Ok found) → AllByRecursion IsOfText found → all ≡ found ++ built_in file →
    AreMerged all entries →
    AreFolders files folders → IsMergedOf files file entries
is-merged files file folders found all entries read texts behind merged told = record {
  layers = found;
  read = read_of files file folders (Ok found) told read;
  texts = texts;
  merged = subst (λ (l : List Layer). AreMerged l entries) behind merged;
}

-- and so were the zones, without the built-in ones too
pub are-zones : (files : Option (List TreeFile)) (folders : List (List ℕ)) (found all : List Layer) (own zones : List MergedEntry) →
    ReadAs files (λ all. layers_read all Zones folders) (Ok found) → AllByRecursion IsOfText found → AreMerged found own →
    all ≡ found ++ built_in Zones → AreMerged all zones → AreFolders files folders → AreZonesOf files own zones
are-zones files folders found all own zones read texts alone behind merged told = record {
  all = record {
    layers = found;
    read = read_of files Zones folders (Ok found) told read;
    texts = texts;
    merged = subst (λ (l : List Layer). AreMerged l zones) behind merged;
  };
  alone = alone;
}

-- where its layers were not read, no settings of it are
pub layers-stop : (files : Option (List TreeFile)) (file : SettingsFile) (folders : List (List ℕ)) (stop : LayerStop) (failed failed' : ℕ) →
    LayerStops stop failed failed' files (λ all. layers_read all file folders) → AreFolders files folders →
    LayerStops stop failed failed' files (λ all. settings all file)
layers-stop files file folders layers.Memory failed failed' stop told = tt
layers-stop files file folders layers.Input failed failed' stop told = stop
layers-stop files file folders (layers.Refused refusal) failed failed' stop told =
    followed files file (Err refusal) (read_of files file folders (Err refusal) told stop)

pub file-stops : (files : Option (List TreeFile)) (file : SettingsFile) (stop : LayerStop) (failed failed' : ℕ) →
    LayerStops stop failed failed' files (λ all. settings all file) → StopsIn file (stop_in file stop) failed failed' files
file-stops files file layers.Memory failed failed' stop = tt
file-stops files file layers.Input failed failed' stop = stop
file-stops files file (layers.Refused refusal) failed failed' stop = (refl, stop)

-- ---- all five

-- a file that was read while the tree was as it is has no fault
pub is-sound : (files files' : Option (List TreeFile)) (file : SettingsFile) (entries : List MergedEntry) (folders : List (List ℕ)) →
    files' ≡ files → IfSome files (λ all. folders ≡ folders_of all) →
    (IfSome files' (λ all. folders ≡ folders_of all) → IsMergedOf files' file entries) → IsSound files file
is-sound files files' file entries folders same told merged =
    let m = subst (λ (f : Option (List TreeFile)). IsMergedOf f file entries) same
    (merged (subst (λ (f : Option (List TreeFile)). IfSome f (λ all. folders ≡ folders_of all)) (sym same) told)) in
    (m.layers ++ built_in file, followed files file (Ok m.layers) m.read)

-- what was read while the tree was as it is was read of it
pub is-read : (files files' : Option (List TreeFile)) (file : SettingsFile) (entries : List MergedEntry) (folders : List (List ℕ)) →
    files' ≡ files → IfSome files (λ all. folders ≡ folders_of all) →
    (IfSome files' (λ all. folders ≡ folders_of all) → IsMergedOf files' file entries) → IsMergedOf files file entries
is-read files files' file entries folders same told merged =
    subst (λ (f : Option (List TreeFile)). IsMergedOf f file entries) same
    (merged (subst (λ (f : Option (List TreeFile)). IfSome f (λ all. folders ≡ folders_of all)) (sym same) told))

pub zones-read : (files files' : Option (List TreeFile)) (own zones : List MergedEntry) (folders : List (List ℕ)) →
    files' ≡ files → IfSome files (λ all. folders ≡ folders_of all) →
    (IfSome files' (λ all. folders ≡ folders_of all) → AreZonesOf files' own zones) → AreZonesOf files own zones
zones-read files files' own zones folders same told merged =
    subst (λ (f : Option (List TreeFile)). AreZonesOf f own zones) same
    (merged (subst (λ (f : Option (List TreeFile)). IfSome f (λ all. folders ≡ folders_of all)) (sym same) told))

-- all five were read
pub are-read : (files : Option (List TreeFile)) (found : MergedFiles) → IsMergedOf files Props found.props →
    IsMergedOf files Transforms found.transforms → IsMergedOf files Indexes found.indexes → IsMergedOf files Inputs found.inputs →
    AreZonesOf files found.own_zones found.zones → AreMergedFiles files found
are-read files found props transforms indexes inputs zones = record {
  props = props;
  transforms = transforms;
  indexes = indexes;
  inputs = inputs;
  zones = zones.all;
  own_zones = zones.alone;
}

-- and where reading it stopped, it stopped by the tree as it is
pub stops-told : (files files' : Option (List TreeFile)) (file : SettingsFile) (stop : ConfigurationStop) (failed failed' : ℕ)
    (folders : List (List ℕ)) →
    files' ≡ files → IfSome files (λ all. folders ≡ folders_of all) →
    (IfSome files' (λ all. folders ≡ folders_of all) → StopsIn file stop failed failed' files') → StopsIn file stop failed failed' files
stops-told files files' file stop failed failed' folders same told stops =
    subst (λ (f : Option (List TreeFile)). StopsIn file stop failed failed' f) same
    (stops (subst (λ (f : Option (List TreeFile)). IfSome f (λ all. folders ≡ folders_of all)) (sym same) told))
