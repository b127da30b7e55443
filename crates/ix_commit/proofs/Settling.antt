-- Staged bytes are put behind the committed ones, file by file.
use Rattle.std.proofs.Common.{◌≡◌, ◌≢◌, ℕ, ◌+◌, ◌<◌, ◌≤◌, List, length, take, get_or, refl, ap, subst, sym, ◌∙◌, ⊎_elim, inl, arith}
use Rattle.std.specs.Prelude.{All, Contains}
use Rattle.std.proofs.lemmas.List.{take_all}
use Rattle.std.proofs.lemmas.List.Elements.{All-get_or, All-weaker, All-more, All-contains, All-map}
use Rattle.ix_base.specs.declared.files.Area.{Area}
use Rattle.ix_base.specs.declared.files.Area.TheVariants.{Meta, Home}
use Rattle.ix_base.specs.declared.files.File.{File}
use Rattle.ix_disk.specs.Image.{Image, content, bytes_in, Stays}
use Rattle.ix_disk.specs.Moments.{ImagesStep, Holds}
use Rattle.ix_disk.specs.Files.{is_it}
use Rattle.ix_disk.specs.declared.disk.Disk.{Ghosts}
use Rattle.ix_disk.proofs.Runs.{joined, nowhere}
use Rattle.ix_bucket.specs.Append.{Behind, HasAt}
use Rattle.ix_manifest.specs.Root.{log_file}
use Rattle.ix_commit.specs.Contents.{Filling, BeginsWith, HasFilling, HoldsFilling, Spares, Keeping, KeepsLogs, Anyhow}
use Rattle.ix_commit.specs.Parts.{IsPart, AreParts, file_in, files_of}
use Rattle.ix_commit.specs.declared.staged_append.StagedAppend.{StagedAppend}
use Rattle.ix_commit.proofs.Fronts.{front_and_behind, front_stays}

pub spares_itself : (log : File) (bytes : Filling) (a : Image) → Spares log bytes a a
spares_itself log bytes a = record { root_stays = refl; log_stays = refl; keeps = λ had. had }

pub spares_on : (log : File) (bytes : Filling) (a b c : Image) → Spares log bytes a b → Spares log bytes b c → Spares log bytes a c
spares_on log bytes a b c first second = record {
  root_stays = second.root_stays ∙ first.root_stays;
  log_stays = second.log_stays ∙ first.log_stays;
  keeps = λ had. second.keeps (first.keeps had);
}

abbrev area_in : File → Area
area_in file = file.area

-- a file of another area than the logs' is none of them
pub no_log : (log file : File) → log.area ≡ Meta → file.area ≢ Meta → log ≢ file
no_log log file meta other same = other (ap area_in (sym same) ∙ meta)

pub home_no_log : (log file : File) → log.area ≡ Meta → file.area ≡ Home → log ≢ file
home_no_log log file meta home same =
    let areas : Meta ≡ Home = sym meta ∙ ap area_in same ∙ home in
    absurd cc

pub behind_spares : (log : File) (old new : Filling) (part : StagedAppend) (a b : Image) → log.area ≡ Meta → IsPart old new part →
    Behind (file_in part) part.committed a b → Spares log old a b
behind_spares log old new part a b meta is step = record {
  root_stays = step.others (log_file 0) (home_no_log (log_file 0) (file_in part) refl refl);
  log_stays = step.others log (home_no_log log (file_in part) meta refl);
  keeps = λ had. record { begins = λ file. ⊎_elim (here had file) (elsewhere had file) (is_it file (file_in part)) };
}
  where
    here : HasFilling old a → (file : File) → file ≡ (file_in part) → BeginsWith (old file) (bytes_in b file)
    here had file same = subst (λ (f : File). BeginsWith (old f) (bytes_in b f)) (sym same)
        (front_stays (old (file_in part)) (bytes_in a (file_in part)) (bytes_in b (file_in part)) part.committed is.committed step.front
        (had.begins (file_in part)))

    elsewhere : HasFilling old a → (file : File) → file ≢ (file_in part) → BeginsWith (old file) (bytes_in b file)
    elsewhere had file ne = subst (λ (l : List ℕ). BeginsWith (old file) l) (sym (ap content (step.others file ne))) (had.begins file)

-- the part at a place is one of them
pub part_at : (old new : Filling) (parts : List StagedAppend) (i : ℕ) (part : StagedAppend) → i < length parts →
    part ≡ get_or parts i part → AreParts old new parts → IsPart old new part
part_at old new parts i part within is are = subst (IsPart old new) (sym is) (All-get_or (IsPart old new) parts i part within are.each)

module _ {D : Type 0} (g : Ghosts D) (log : File) (old : Filling) where
  -- each file begins so still
  pub spared : (first mid : D) → ImagesStep g first mid (Spares log old) → HoldsFilling g first old → HoldsFilling g mid old
  spared first mid run had image left =
      let from = run.now image left in
      from.2.keeps (had from.0 from.1)

  -- no call yet
  pub settle_none : (disk : D) → ImagesStep g disk disk (Spares log old)
  settle_none disk = record {
    later = omega arith;
    now = λ image left. (image, left, spares_itself log old image);
    since = λ t image le left. inl left;
    keeps = λ t image le left. left;
  }

  -- a run goes on
  pub spares_more : (first mid next : D) (step : Image → Image → Type 0) → ((a b : Image) → step a b → Spares log old a b) →
      ImagesStep g first mid (Spares log old) → ImagesStep g mid next step → ImagesStep g first next (Spares log old)
  spares_more first mid next step leads run then_ = joined g first mid next (Spares log old) step (Spares log old)
      (λ a b spares. spares)
      (λ a b c spares s. spares_on log old a b c spares (leads b c s))
      run then_

  -- and another behind it
  pub spares_through : (first mid next : D) → ImagesStep g first mid (Spares log old) → ImagesStep g mid next (Spares log old) →
      ImagesStep g first next (Spares log old)
  spares_through first mid next = spares_more first mid next (Spares log old) (λ a b spares. spares)

module _ {D : Type 0} (g : Ghosts D) (log : File) (old new : Filling) (meta : log.area ≡ Meta) where
  module _ (first mid next : D) (part : StagedAppend) (is : IsPart old new part)
      (step : ImagesStep g mid next (Behind (file_in part) part.committed)) where
    -- one part more
    pub settle_run : ImagesStep g first mid (Spares log old) → ImagesStep g first next (Spares log old)
    settle_run run = spares_more g log old first mid next (Behind (file_in part) part.committed)
        (λ b c behind. behind_spares log old new part b c meta is behind) run step

    pub settle_this : HoldsFilling g next old → Holds g next (file_in part) (HasAt part.committed part.staged) →
        Holds g next (file_in part) (BeginsWith (new (file_in part)))
    settle_this had appended image left = subst (λ (bytes : List ℕ). BeginsWith bytes (bytes_in image (file_in part))) (sym is.staged)
        (front_and_behind (old (file_in part)) part.staged (bytes_in image (file_in part)) part.committed is.committed
        ((had image left).begins (file_in part)) (appended image left))

    pub settle_earlier : Holds g next (file_in part) (BeginsWith (new (file_in part))) → (p : StagedAppend) →
        Holds g mid (file_in p) (BeginsWith (new (file_in p))) → Holds g next (file_in p) (BeginsWith (new (file_in p)))
    settle_earlier this p holds = ⊎_elim
        (λ (same : (file_in p) ≡ (file_in part)). subst (λ (f : File). Holds g next f (BeginsWith (new f))) (sym same) this)
        (λ (ne : (file_in p) ≢ (file_in part)). λ image left.
        let from = step.now image left in
        subst (BeginsWith (new (file_in p))) (sym (ap content (from.2.others (file_in p) ne))) (holds from.0 from.1))
        (is_it (file_in p) (file_in part))

    pub settle_more : (parts : List StagedAppend) (i : ℕ) → i < length parts → part ≡ get_or parts i part
        → HoldsFilling g next old → Holds g next (file_in part) (HasAt part.committed part.staged)
        → All (λ (p : StagedAppend). Holds g mid (file_in p) (BeginsWith (new (file_in p)))) (take i parts)
        → All (λ (p : StagedAppend). Holds g next (file_in p) (BeginsWith (new (file_in p)))) (take (i + 1) parts)
    settle_more parts i within at had appended so_far =
        let this = settle_this had appended in
        All-more (λ (p : StagedAppend). Holds g next (file_in p) (BeginsWith (new (file_in p)))) parts i part within
        (All-weaker (λ (p : StagedAppend). Holds g mid (file_in p) (BeginsWith (new (file_in p))))
        (λ (p : StagedAppend). Holds g next (file_in p) (BeginsWith (new (file_in p)))) (settle_earlier this) (take i parts) so_far)
        (subst (λ (p : StagedAppend). Holds g next (file_in p) (BeginsWith (new (file_in p)))) at this)

  -- all parts
  pub settled_all : (disk : D) (parts : List StagedAppend) (n : ℕ) → length parts ≤ n → AreParts old new parts → HoldsFilling g disk old
      → All (λ (p : StagedAppend). Holds g disk (file_in p) (BeginsWith (new (file_in p)))) (take n parts) → HoldsFilling g disk new
  settled_all disk parts n enough are had all image left =
      record { begins = λ file. ⊎_elim (same_still file) (in_parts file) (are.others file) }
    where
      whole : All (λ (p : StagedAppend). Holds g disk (file_in p) (BeginsWith (new (file_in p)))) parts
      whole = subst (All (λ (p : StagedAppend). Holds g disk (file_in p) (BeginsWith (new (file_in p))))) (take_all n parts enough) all

      same_still : (file : File) → new file ≡ old file → BeginsWith (new file) (bytes_in image file)
      same_still file same = subst (λ (bytes : List ℕ). BeginsWith bytes (bytes_in image file)) (sym same) ((had image left).begins file)

      in_parts : (file : File) → Contains (files_of parts) file → BeginsWith (new file) (bytes_in image file)
      in_parts file found =
          let P = λ (f : File). Holds g disk f (BeginsWith (new f)) in
          All-contains P (files_of parts) file (All-map P file_in parts whole) found image left

-- a run that keeps a file goes on
pub keeping_on : {D : Type 0} (g : Ghosts D) (log : File) (first mid next : D) (step : Image → Image → Type 0) →
    ((a b : Image) → step a b → b log ≡ a log) → ImagesStep g first mid (Keeping log) → ImagesStep g mid next step →
    ImagesStep g first next (Keeping log)
keeping_on g log first mid next step stays run then_ = joined g first mid next (Keeping log) step (Keeping log) (λ a b same. same)
    (λ a b c same s. stays b c s ∙ same) run then_

pub keeping_none : {D : Type 0} (g : Ghosts D) (log : File) (disk : D) → ImagesStep g disk disk (Keeping log)
keeping_none g log disk = record {
  later = omega arith;
  now = λ image left. (image, left, refl);
  since = λ t image le left. inl left;
  keeps = λ t image le left. left;
}

module _ {D : Type 0} (g : Ghosts D) where
  pub loosely : (old new : D) (step : Image → Image → Type 0) → ImagesStep g old new step → ImagesStep g old new Anyhow
  loosely old new step run = joined g old new new step Stays Anyhow (λ a b s. tt) (λ a b c s t. tt) run (nowhere g new)

  pub loosely_on : (old mid new : D) (first second : Image → Image → Type 0) → ImagesStep g old mid first → ImagesStep g mid new second →
      ImagesStep g old new Anyhow
  loosely_on old mid new first second run then_ = joined g old mid new first second Anyhow (λ a b s. tt) (λ a b c s t. tt) run then_

  -- the logs that count are kept
  pub logs_on_keep : (log : File) (first mid next : D) (step : Image → Image → Type 0) → ((a b : Image) → step a b → KeepsLogs log a b) →
      ImagesStep g first mid (KeepsLogs log) → ImagesStep g mid next step → ImagesStep g first next (KeepsLogs log)
  logs_on_keep log first mid next step keeps run then_ = joined g first mid next (KeepsLogs log) step (KeepsLogs log) (λ a b same. same)
      (λ a b c same s. record {
        root_stays = (keeps b c s).root_stays ∙ same.root_stays;
        log_stays = (keeps b c s).log_stays
            ∙ same.log_stays;
      }) run then_

  pub logs_none : (log : File) (disk : D) → ImagesStep g disk disk (KeepsLogs log)
  logs_none log disk = record {
    later = omega arith;
    now = λ image left. (image, left, record { root_stays = refl; log_stays = refl });
    since = λ t image le left. inl left;
    keeps = λ t image le left. left;
  }

  pub anyhow_on : (old mid new : D) → ImagesStep g old mid Anyhow → ImagesStep g mid new Anyhow → ImagesStep g old new Anyhow
  anyhow_on old mid new run then_ = loosely_on old mid new Anyhow Anyhow run then_
