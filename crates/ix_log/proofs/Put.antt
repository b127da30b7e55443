-- The run of calls that puts bytes of a body.
use Rattle.std.proofs.Common.{◌≡◌, ◌<◌, ℕ, ◌+◌, List, ◌++◌, length, inl, subst, arith}
use Rattle.ix_base.specs.declared.files.File.{File}
use Rattle.ix_disk.specs.Image.{MayWrite, Writes}
use Rattle.ix_base.specs.Told.{Told}
use Rattle.ix_disk.specs.Moments.{ImagesStep, InFile, Holds, Reads}
use Rattle.ix_disk.proofs.Runs.{write_on, write_holds, write_reads}
use Rattle.ix_disk.specs.declared.disk.Disk.{Ghosts}
use Rattle.ix_log.specs.Log.{blocks, HasBodies, Gated, Staged, IsPutting}
use Rattle.ix_log.specs.declared.log.Log.{Log}
use Rattle.ix_log.proofs.Bytes.{gate_stays, stage_more}

module _ {D : Type 0} (g : Ghosts D) (old mid new : D) (file : File) (bodies : List (List ℕ)) (body bytes : List ℕ) (log : Log)
    (same : log.file ≡ file) (putting : IsPutting g log mid bodies body)
    (write : ImagesStep g mid new (MayWrite log.file (log.at + 5 + log.len) (length bytes))) where
  behind : length (blocks bodies) < log.at + 5 + log.len
  behind = omega (arith, putting.place)

  pub put_run : ImagesStep g old mid (InFile file (HasBodies bodies)) → ImagesStep g old new (InFile file (HasBodies bodies))
  put_run first =
      let holds = subst (λ (f : File). Holds g mid f (Gated bodies)) same putting.images in
      let to_file = subst (λ (f : File). ImagesStep g mid new (MayWrite f (log.at + 5 + log.len) (length bytes))) same write in
      write_on g mid new file (log.at + 5 + log.len) (length bytes) (Gated bodies) (HasBodies bodies) to_file holds
      (λ a b gated torn. inl (gate_stays bodies a b (log.at + 5 + log.len) (length bytes) behind gated torn)) old first

  pub put_holds : Holds g new log.file (Gated bodies)
  put_holds = write_holds g mid new log.file (log.at + 5 + log.len) (length bytes) (Gated bodies) (Gated bodies) write putting.images
      (λ a b gated torn. gate_stays bodies a b (log.at + 5 + log.len) (length bytes) behind gated torn)

  pub put_reads : Told (Writes log.file (log.at + 5 + log.len) bytes) (g.seen mid) (g.seen new) →
      Reads g new log.file (Staged bodies (body ++ bytes))
  put_reads sees = write_reads g mid new log.file (log.at + 5 + log.len) bytes (Staged bodies body) (Staged bodies (body ++ bytes)) sees
      putting.seen
      (λ a staged. stage_more bodies body a staged bytes (log.at + 5 + log.len) (omega (arith, putting.place, putting.len)))
