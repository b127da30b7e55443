-- Where the file of a log ends.
use Rattle.std.proofs.Common.{◌≡◌, ◌≤◌, ℕ, ◌+◌, List, [], ◌∷◌, length, take, drop, ◌++◌, Bool, true, false, if◌then◌else◌, refl, ◌∙◌}
use Rattle.std.proofs.Common.{arith, length-append, length-take, length-drop}
use Rattle.ix_base.specs.Told.{Told}
use Rattle.ix_disk.specs.Image.{Writes, overwritten, bytes_in}
use Rattle.ix_disk.specs.Moments.{Reads}
use Rattle.ix_disk.specs.declared.disk.Disk.{Ghosts}
use Rattle.ix_disk.proofs.Runs.{write_reads}
use Rattle.ix_base.specs.declared.files.File.{File}
use Rattle.ix_log.specs.Log.{end_of, HasNoMore}
use Rattle.ix_log.specs.declared.log.Log.{Log}

pub end_begun : (log : Log) → log.begun ≡ true → end_of log ≡ log.at + 5 + log.len
end_begun log is = go log.begun is
  where
    go : (begun : Bool) → begun ≡ true → (if begun then log.at + 5 + log.len else log.at + 1) ≡ log.at + 5 + log.len
    go true is = refl
    go false is = absurd (cc is)

pub end_idle : (log : Log) → log.begun ≡ false → end_of log ≡ log.at + 1
end_idle log is = go log.begun is
  where
    go : (begun : Bool) → begun ≡ false → (if begun then log.at + 5 + log.len else log.at + 1) ≡ log.at + 1
    go true is = absurd (cc is)
    go false is = refl

pub end_behind : (log : Log) → log.at + 1 ≤ end_of log
end_behind log = go log.begun
  where
    go : (begun : Bool) → log.at + 1 ≤ (if begun then log.at + 5 + log.len else log.at + 1)
    go true = omega arith
    go false = omega arith

over_length : (at : ℕ) (bytes old : List ℕ) → at ≤ length old →
    length (overwritten at bytes old) ≡ at + length bytes + length (drop (at + length bytes) old)
over_length at bytes old le =
    omega (
      arith,
      length-append (take at old ++ bytes) (drop (at + length bytes) old),
      length-append (take at old) bytes,
      length-take at old,
    )

module _ {D : Type 0} (g : Ghosts D) (old new : D) (file : File) (at : ℕ) (bytes : List ℕ)
    (sees : Told (Writes file at bytes) (g.seen old) (g.seen new)) (end : ℕ) (reads : Reads g old file (λ l. length l ≡ end)) where
  -- a write within the file leaves its end
  pub end_within : at + length bytes ≤ end → Reads g new file (λ l. length l ≡ end)
  end_within le = write_reads g old new file at bytes (λ l. length l ≡ end) (λ l. length l ≡ end) sees reads
      (λ l is. omega (arith, over_length at bytes l (omega (arith, is, le)), length-drop (at + length bytes) l, is, le))

  -- a write at its end makes it longer
  pub end_moves : at ≡ end → Reads g new file (λ l. length l ≡ end + length bytes)
  end_moves same = write_reads g old new file at bytes (λ l. length l ≡ end) (λ l. length l ≡ end + length bytes) sees reads
      (λ l is. omega (arith, over_length at bytes l (omega (arith, is, same)), length-drop (at + length bytes) l, is, same))

-- a put makes it longer
pub put_ends : {D : Type 0} (g : Ghosts D) (mid new : D) (log : Log) (bytes : List ℕ) → log.begun ≡ true →
    Told (Writes log.file (log.at + 5 + log.len) bytes) (g.seen mid) (g.seen new) → HasNoMore g log mid
    → Reads g new log.file (λ l. length l ≡ (if log.begun then log.at + 5 + (log.len + length bytes) else log.at + 1))
put_ends g mid new log bytes begun sees had image told = go log.begun begun
  where
    now : length (bytes_in image log.file) ≡ log.at + 5 + log.len + length bytes
    now = end_moves g mid new log.file (log.at + 5 + log.len) bytes sees (log.at + 5 + log.len) (λ before is. had before is
        ∙ end_begun log begun) refl image told

    go : (test : Bool) → test ≡ true → length (bytes_in image log.file) ≡ (if test then log.at + 5 + (log.len + length bytes) else
        log.at + 1)
    go true is = omega (arith, now)
    go false is = absurd (cc is)

-- a block does so by the gate behind it
pub close_ends : {D : Type 0} (g : Ghosts D) (old mid new : D) (log : Log) (four : List ℕ) → length four ≡ 4 → log.begun ≡ true →
    Told (Writes log.file (log.at + 1) four) (g.seen old) (g.seen mid)
    → Told (Writes log.file (log.at + 5 + log.len) (0 ∷ [])) (g.seen mid) (g.seen new) → HasNoMore g log old →
    Reads g new log.file (λ l. length l ≡ log.at + 6 + log.len)
close_ends g old mid new log four size begun first second had image told =
    let end = log.at + 5 + log.len in
    let within = end_within g old mid log.file (log.at + 1) four first end (λ before is. had before is
    ∙ end_begun log begun) (omega (arith, size)) in
    omega (arith, end_moves g mid new log.file end (0 ∷ []) second end within refl image told)
