-- Copies are made one by one, and files are removed one by one.
use Rattle.std.proofs.Common.{◌≡◌, ◌≢◌, ℕ, zero, suc, ◌+◌, ◌<◌, List, [], ◌∷◌, ◌++◌, length, take, get_or, Bool, true, false}
use Rattle.std.proofs.Common.{if◌then◌else◌, refl, ap, subst, sym, ◌∙◌, ⊎_elim, Some, arith}
use native.Mathlib.Numerals.{unary_clauses}
use Rattle.ix_base.specs.declared.files.Area.TheVariants.{Meta, Home}
use Rattle.ix_base.specs.declared.files.File.{File}
use Rattle.ix_disk.specs.Image.{Image, content, bytes_in, Apart, MayRemove}
use Rattle.ix_disk.specs.Moments.{ImagesStep}
use Rattle.ix_disk.specs.Files.{is_it, is_same, told_same, told_other}
use Rattle.ix_disk.specs.declared.disk.Disk.{Ghosts}
use Rattle.ix_archive.specs.Copies.{HasCopy}
use Rattle.ix_manifest.specs.Root.{log_file}
use Rattle.ix_commit.specs.Contents.{Contents, Filling, filling, BeginsWith, HasFilling, HoldsFilling, Spares, IsFree, put_in}
use Rattle.ix_commit.specs.Copies.{IsCopy, AreCopies, target, area_of, after_copy, after_copies}
use Rattle.ix_commit.specs.Parts.{home}
use Rattle.ix_commit.specs.declared.file_copy.CopyTarget.{CopyTarget}
use Rattle.ix_commit.specs.declared.file_copy.CopyTarget.TheVariants as places
use Rattle.ix_commit.specs.declared.file_copy.FileCopy.{FileCopy}
use Rattle.ix_commit.proofs.Fronts.{begins_taken}
use Rattle.ix_commit.proofs.Settling.{no_log, spares_more}

-- a copy goes to no log, and to no bucket that takes events
pub no_meta : (copied : FileCopy) → (target copied).area ≢ Meta
no_meta copied = go copied.place
  where
    go : (place : CopyTarget) → area_of place ≢ Meta
    go places.Cold is = cc
    go places.Frozen is = cc
    go places.Thawed is = cc

pub home_apart : (n : ℕ) (copied : FileCopy) → home n ≢ target copied
home_apart n copied same = go copied.place (ap (λ (f : File). f.area) same)
  where
    go : (place : CopyTarget) → Home ≡ area_of place → ⊥
    go places.Cold is = cc
    go places.Frozen is = cc
    go places.Thawed is = cc

chosen : (test told : Bool) (x y : List ℕ) → test ≡ told → (if test then x else y) ≡ (if told then x else y)
chosen test told x y is = ap (λ (t : Bool). if t then x else y) is

pub put_here : (file : File) (bytes : List ℕ) (now : Filling) → put_in file bytes now file ≡ bytes
put_here file bytes now = chosen (is_same file file) true bytes (now file) (told_same file file refl)

pub put_elsewhere : (file : File) (bytes : List ℕ) (now : Filling) (other : File) → other ≢ file → put_in file bytes now other ≡ now other
put_elsewhere file bytes now other ne = chosen (is_same other file) false bytes (now other) (told_other other file ne)

-- what changes one file without bytes spares the rest
pub apart_spares : (log : File) (bytes : Filling) (free : File) (a b : Image) → log_file 0 ≢ free → log ≢ free → bytes free ≡ [] →
    Apart free a b → Spares log bytes a b
apart_spares log bytes free a b not_root not_log none step = record {
  root_stays = step (log_file 0) not_root;
  log_stays = step log not_log;
  keeps = λ had. record { begins = λ file. ⊎_elim (here file) (elsewhere had file) (is_it file free) };
}
  where
    here : (file : File) → file ≡ free → BeginsWith (bytes file) (bytes_in b file)
    here file same = subst (λ (l : List ℕ). BeginsWith l (bytes_in b file)) (sym (ap bytes same ∙ none)) refl

    elsewhere : HasFilling bytes a → (file : File) → file ≢ free → BeginsWith (bytes file) (bytes_in b file)
    elsewhere had file ne = subst (BeginsWith (bytes file)) (sym (ap content (step file ne))) (had.begins file)

module _ {D : Type 0} (g : Ghosts D) (log : File) where
  pub remove_run : (contents : Contents) (first mid next : D) (file : File) → IsFree log contents file →
      ImagesStep g first mid (Spares log (filling contents)) → ImagesStep g mid next (MayRemove file) →
      ImagesStep g first next (Spares log (filling contents))
  remove_run contents first mid next file is run step = spares_more g log (filling contents) first mid next (MayRemove file)
      (λ b c gone. apart_spares log (filling contents) file b c (λ same. is.not_root (sym same)) (λ same. is.not_current (sym same)) is.none
      gone.others)
      run step

  pub copy_run : (old now : Filling) (first mid next : D) (copied : FileCopy) → log.area ≡ Meta → IsCopy old now copied →
      ImagesStep g first mid (Spares log old) → ImagesStep g mid next (Apart (target copied)) → ImagesStep g first next (Spares log old)
  copy_run old now first mid next copied meta is run step = spares_more g log old first mid next (Apart (target copied))
      (λ b c apart. apart_spares log old (target copied) b c (no_log (log_file 0) (target copied) refl (no_meta copied))
      (no_log log (target copied) meta (no_meta copied)) is.free apart)
      run step

module _ {D : Type 0} (g : Ghosts D) (old now : Filling) (mid next : D) (copied : FileCopy) (is : IsCopy old now copied)
    (step : ImagesStep g mid next (Apart (target copied))) where
  -- one copy
  pub copy_holds : ((image : Image) → g.seen mid ≡ Some image → g.may_leave mid image) → HoldsFilling g mid now →
      ((image : Image) → g.may_leave next image → HasCopy g mid copied.from (target copied) copied.len image) →
      HoldsFilling g next (after_copy copied now)
  copy_holds may_stay had copies image left = record { begins = λ file. ⊎_elim (here file) (elsewhere file) (is_it file (target copied)) }
    where
      bytes : List ℕ
      bytes = take copied.len (now copied.from)

      copy_there : BeginsWith bytes (bytes_in image (target copied))
      copy_there =
          let copy = copies image left in
          begins_taken (now copied.from) (bytes_in copy.read copied.from) (bytes_in image (target copied)) copied.len is.enough
          ((had copy.read (may_stay copy.read copy.told)).begins copied.from) copy.bytes.same

      here : (file : File) → file ≡ (target copied) → BeginsWith (after_copy copied now file) (bytes_in image file)
      here file same = subst (λ (f : File). BeginsWith (after_copy copied now f) (bytes_in image f)) (sym same)
          (subst (λ (l : List ℕ). BeginsWith l (bytes_in image (target copied))) (sym (put_here (target copied) bytes now)) copy_there)

      elsewhere : (file : File) → file ≢ (target copied) → BeginsWith (after_copy copied now file) (bytes_in image file)
      elsewhere file ne =
          let from = step.now image left in
          subst (λ (l : List ℕ). BeginsWith l (bytes_in image file)) (sym (put_elsewhere (target copied) bytes now file ne))
          (subst (BeginsWith (now file)) (sym (ap content (from.2 file ne))) ((had from.0 from.1).begins file))

-- ---- one behind the other

copies_suc : (xs : List FileCopy) (k : ℕ) (d : FileCopy) (now : Filling) → k < length xs →
    after_copies (take (suc k) xs) now ≡ after_copy (get_or xs k d) (after_copies (take k xs) now)
copies_suc [] k d now l = absurd (omega (arith, l))
copies_suc (x ∷ xs) zero d now l = refl
copies_suc (x ∷ xs) (suc k) d now l = copies_suc xs k d (after_copy x now) (omega (arith, l))

pub copies_more : (xs : List FileCopy) (k : ℕ) (d : FileCopy) (now : Filling) → k < length xs →
    after_copies (take (k + 1) xs) now ≡ after_copy (get_or xs k d) (after_copies (take k xs) now)
copies_more xs k d now l = simp unary_clauses (copies_suc xs k d now l)

pub copy_at : (old now : Filling) (xs : List FileCopy) (k : ℕ) (d : FileCopy) → k < length xs → AreCopies old now xs →
    IsCopy old (after_copies (take k xs) now) (get_or xs k d)
copy_at old now [] k d l are = absurd (omega (arith, l))
copy_at old now (x ∷ xs) zero d l are = are.0
copy_at old now (x ∷ xs) (suc k) d l are = copy_at old (after_copy x now) xs k d (omega (arith, l)) are.1

-- a file of an area to which nothing is copied has what it had
pub untouched : (old now : Filling) (xs : List FileCopy) (file : File) → AreCopies old now xs →
    ((copied : FileCopy) → file ≢ target copied) → after_copies xs now file ≡ now file
untouched old now [] file are apart = refl
untouched old now (x ∷ xs) file are apart =
    untouched old (after_copy x now) xs file are.1 apart ∙ put_elsewhere (target x) (take x.len (now x.from)) now file (apart x)

pub home_untouched : (old now : Filling) (xs : List FileCopy) (n : ℕ) → AreCopies old now xs → after_copies xs now (home n) ≡ now (home n)
home_untouched old now xs n are = untouched old now xs (home n) are (λ copied. home_apart n copied)

pub log_untouched : (old now : Filling) (xs : List FileCopy) (file : File) → AreCopies old now xs → file.area ≡ Meta →
    after_copies xs now file ≡ now file
log_untouched old now xs file are meta = untouched old now xs file are (λ copied. no_log file (target copied) meta (no_meta copied))

-- a copy behind the others
pub copies_push : (xs : List FileCopy) (x : FileCopy) (now : Filling) → after_copies (xs ++ x ∷ []) now ≡ after_copy x (after_copies xs now)
copies_push [] x now = refl
copies_push (y ∷ xs) x now = copies_push xs x (after_copy y now)

pub are_push : (old now : Filling) (xs : List FileCopy) (x : FileCopy) → AreCopies old now xs → IsCopy old (after_copies xs now) x →
    AreCopies old now (xs ++ x ∷ [])
are_push old now [] x are is = (is, tt)
are_push old now (y ∷ xs) x are is = (are.0, are_push old (after_copy y now) xs x are.1 is)
