-- A log stays where it is through calls on other files.
use Rattle.std.proofs.Common.{◌≡◌, ◌≢◌, List, ℕ, sym, ap, subst}
use Rattle.ix_base.specs.declared.files.File.{File}
use Rattle.ix_disk.specs.Image.{Image, content, Apart}
use Rattle.ix_disk.specs.Moments.{ImagesStep}
use Rattle.ix_disk.specs.declared.disk.Disk.{Ghosts}
use Rattle.ix_log.specs.Log.{AtEnd, IsAtEnd, file_of}
use Rattle.ix_log.specs.declared.log.Log.{Log}

module _ {D : Type 0} (g : Ghosts D) (old new : D) (log : Log) (bodies : List (List ℕ)) where
  -- by what the calls do to the log's file
  pub at_end_stays : (step : Image → Image → Type 0) → ((a b : Image) → step a b → b (file_of log) ≡ a (file_of log)) →
      ImagesStep g old new step → IsAtEnd g log old bodies → IsAtEnd g log new bodies
  at_end_stays step keeps goes end = record {
    place = end.place;
    idle = end.idle;
    none_put = end.none_put;
    images = λ image left.
        let from = goes.now image left in
        subst (AtEnd log.closed bodies) (sym (ap content (keeps from.0 image from.2))) (end.images from.0 from.1);
  }

  -- and where they are on another file
  pub at_end_elsewhere : (other : File) → file_of log ≢ other → ImagesStep g old new (Apart other) → IsAtEnd g log old bodies →
      IsAtEnd g log new bodies
  at_end_elsewhere other apart goes end = at_end_stays (Apart other) (λ a b step. step (file_of log) apart) goes end
