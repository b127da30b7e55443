-- The run of calls that makes a file an empty log.
use Rattle.std.proofs.Common.{◌≡◌, ℕ, List, [], ◌∷◌, Option, refl, ap, ◌∙◌, arith}
use Rattle.ix_base.specs.declared.files.File.{File}
use Rattle.ix_base.specs.Told.{Told}
use Rattle.ix_disk.specs.Image.{Image, MayWrite, Writes, MayRemove, Removes, Stays, Apart, overwritten}
use Rattle.ix_disk.specs.Moments.{ImagesStep, Reads}
use Rattle.ix_disk.proofs.Runs.{joined, nowhere, write_reads, remove_reads}
use Rattle.ix_disk.proofs.Others.{apart_removed, apart_on, apart_begun, apart_written}
use Rattle.ix_disk.specs.declared.disk.Disk.{Ghosts}
use Rattle.ix_log.specs.Log.{Gated}

-- a closed gate alone
alone : (file : List ℕ) → file ≡ [] → Gated [] (overwritten 0 (0 ∷ []) file)
alone file none = record {
  gate = 0;
  rest = [];
  spelled = ap (λ (l : List ℕ). overwritten 0 (0 ∷ []) l) none;
  shut = λ e. omega arith;
  fit = tt;
}

still_apart : (file : File) (a b c : Image) → Apart file a b → Stays b c → Apart file a c
still_apart file a b c apart same other ne = ap (λ (i : Image). i other) same ∙ apart other ne

module _ {D : Type 0} (g : Ghosts D) (old mid : D) (file : File) (remove : ImagesStep g old mid (MayRemove file)) where
  pub fresh_first : ImagesStep g old mid (Apart file)
  fresh_first = joined g old mid mid (MayRemove file) Stays (Apart file) (λ a b step. step.others)
      (λ a b c step same. still_apart file a b c step.others same) remove (nowhere g mid)

  module _ (next : D) (write : ImagesStep g mid next (MayWrite file 0 1)) where
    pub fresh_second : ImagesStep g old next (Apart file)
    fresh_second = joined g old mid next (MayRemove file) (MayWrite file 0 1) (Apart file) (λ a b step. step.others)
        (λ a b c first second other ne. second.others other ne ∙ first.others other ne) remove write

    pub fresh_third : (new : D) → ImagesStep g next new Stays → ImagesStep g old new (Apart file)
    fresh_third new stays = joined g old next new (Apart file) Stays (Apart file) (λ a b step. step)
        (λ a b c step same. still_apart file a b c step same) fresh_second stays

pub fresh_reads : {D : Type 0} (g : Ghosts D) (old mid next : D) (file : File) → Told (Removes file) (g.seen old) (g.seen mid) →
    Told (Writes file 0 (0 ∷ [])) (g.seen mid) (g.seen next) → Reads g next file (Gated [])
fresh_reads g old mid next file removed written =
    write_reads g mid next file 0 (0 ∷ []) (λ l. l ≡ []) (Gated []) written (remove_reads g old mid file (λ l. l ≡ []) removed refl) alone

pub fresh_seen : (file : File) (old mid next : Option Image) → Told (Removes file) old mid → Told (Writes file 0 (0 ∷ [])) mid next →
    Told (Apart file) old next
fresh_seen file old mid next removed written = apart_on file old mid next (apart_removed file old mid removed)
    (apart_written file 0 (0 ∷ []) mid next written)

pub fresh_begun : (file : File) (old mid next : Option Image) → Told (Removes file) old mid → Told (MayWrite file 0 1) mid next →
    Told (Apart file) old next
fresh_begun file old mid next removed begun = apart_on file old mid next (apart_removed file old mid removed)
    (apart_begun file 0 1 mid next begun)
