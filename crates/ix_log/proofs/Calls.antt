-- Calls of a log, one behind the other: what a read of the other files gives, and which of them
-- failed.
use Rattle.std.proofs.Common.{◌≡◌, ◌≤◌, ℕ, List, Option, Result, false, is_err, sym, subst, ◌∙◌, arith}
use Rattle.std.proofs.lemmas.Bool.{true≢false}
use Rattle.ix_base.specs.declared.files.File.{File}
use Rattle.ix_base.specs.Faults.{Rose, HasCause}
use Rattle.ix_base.specs.Told.{Told}
use Rattle.ix_disk.specs.Image.{Image, MayWrite, Writes, Apart}
use Rattle.ix_disk.proofs.Others.{apart_on, apart_begun, apart_written}
use Rattle.ix_disk.proofs.Runs.{rose_later}

module _ (file other : File) (at : ℕ) (old mid new : Option Image) (same : other ≡ file) (first : Told (Apart file) old mid) where
  -- a write that was begun
  pub then_begun : (n : ℕ) → Told (MayWrite other at n) mid new → Told (Apart file) old new
  then_begun n begun = apart_on file old mid new first (apart_begun file at n mid new
      (subst (λ (f : File). Told (MayWrite f at n) mid new) same begun))

  -- one that succeeded
  pub then_written : (bytes : List ℕ) → Told (Writes other at bytes) mid new → Told (Apart file) old new
  then_written bytes written = apart_on file old mid new first
      (apart_written file at bytes mid new (subst (λ (f : File). Told (Writes f at bytes) mid new) same written))

-- the second one failed, or neither did
module _ {T E : Type 0} (first mid last : ℕ) (result : Result T E) (le : first ≤ mid) (more : mid ≤ last) where
  pub cause_second : Rose mid last → HasCause first last result
  cause_second rose = record { later = omega (arith, le, more); failed = λ failed. rose_later first mid last le rose }

  pub cause_none : is_err result ≡ false → HasCause first last result
  cause_none ok = record { later = omega (arith, le, more); failed = λ failed. absurd (true≢false (sym failed ∙ ok)) }
