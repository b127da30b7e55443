-- The run of calls that puts a whole block on the disk.
use Rattle.std.proofs.Common.{◌≡◌, ◌<◌, ◌≤◌, ℕ, ◌+◌, List, [], ◌∷◌, length, subst, arith}
use Rattle.std.specs.Int.{to_be_bytes, w32}
use Rattle.ix_disk.specs.Image.{MayWrite, Writes, Stays}
use Rattle.ix_base.specs.Told.{Told}
use Rattle.ix_disk.specs.Moments.{ImagesStep, InFile, Holds, Reads}
use Rattle.ix_disk.proofs.Runs.{write_on, write_first, write_holds, write_reads, stay_on}
use Rattle.ix_disk.specs.declared.disk.Disk.{Ghosts}
use Rattle.ix_log.specs.Log.{blocks, Gated, Staged, Whole, IsPutting}
use Rattle.ix_log.specs.declared.log.Log.{Log}
use Rattle.ix_log.proofs.Bytes.{gate_stays, staged_long, StagedUnder, stage_under, make_whole}

module _ {D : Type 0} (g : Ghosts D) (old mid : D) (bodies : List (List ℕ)) (body four : List ℕ) (log : Log)
    (putting : IsPutting g log old bodies body) (size : length four ≡ 4)
    (write : ImagesStep g old mid (MayWrite log.file (log.at + 1) (length four))) where
  pub close_first : ImagesStep g old mid (InFile log.file (Gated bodies))
  close_first = write_first g old mid log.file (log.at + 1) (length four) (Gated bodies) (Gated bodies) write putting.images
      (λ a b gated torn. gate_stays bodies a b (log.at + 1) (length four) (omega (arith, putting.place)) gated torn)

  pub close_holds : Holds g mid log.file (Gated bodies)
  close_holds = write_holds g old mid log.file (log.at + 1) (length four) (Gated bodies) (Gated bodies) write putting.images
      (λ a b gated torn. gate_stays bodies a b (log.at + 1) (length four) (omega (arith, putting.place)) gated torn)

  pub close_reads : Told (Writes log.file (log.at + 1) four) (g.seen old) (g.seen mid) → Reads g mid log.file (StagedUnder four bodies body)
  close_reads sees = write_reads g old mid log.file (log.at + 1) four (Staged bodies body) (StagedUnder four bodies body) sees putting.seen
      (λ a staged. stage_under bodies body a four (log.at + 1) (omega (arith, putting.place)) size staged)

  pub close_room : Told (Writes log.file (log.at + 1) four) (g.seen old) (g.seen mid) →
      Reads g mid log.file (λ l. log.at + 5 + log.len ≤ length l)
  close_room sees image is = let under = close_reads sees image is in
      omega (arith, staged_long bodies body _ under.0, putting.place, putting.len)

  module _ (next : D) (write_next : ImagesStep g mid next (MayWrite log.file (log.at + 5 + log.len) 1)) where
    behind : length (blocks bodies) < log.at + 5 + log.len
    behind = omega (arith, putting.place)

    pub close_second : ImagesStep g old next (InFile log.file (Gated bodies))
    close_second = write_on g mid next log.file (log.at + 5 + log.len) 1 (Gated bodies) (Gated bodies) write_next close_holds
        (λ a b gated torn. gate_stays bodies a b (log.at + 5 + log.len) 1 behind gated torn) old close_first

    pub close_holds_second : Holds g next log.file (Gated bodies)
    close_holds_second = write_holds g mid next log.file (log.at + 5 + log.len) 1 (Gated bodies) (Gated bodies) write_next close_holds
        (λ a b gated torn. gate_stays bodies a b (log.at + 5 + log.len) 1 behind gated torn)

    pub close_third : (new : D) → ImagesStep g next new Stays → ImagesStep g old new (InFile log.file (Gated bodies))
    close_third new stays = stay_on g old next new log.file (Gated bodies) close_second stays close_holds_second

    pub close_whole : four ≡ to_be_bytes w32 (length body) → Told (Writes log.file (log.at + 1) four) (g.seen old) (g.seen mid) →
        Told (Writes log.file (log.at + 5 + log.len) (0 ∷ [])) (g.seen mid) (g.seen next) → Reads g next log.file (Whole bodies body)
    close_whole four_is first second =
        write_reads g mid next log.file (log.at + 5 + log.len) (0
        ∷ []) (StagedUnder four bodies body) (Whole bodies body) second (close_reads first)
        (λ a under. make_whole bodies body a (log.at + 5 + log.len) (omega (arith, putting.len, log.in_range.1))
        (omega (arith, putting.place, putting.len)) (subst (λ (f : List ℕ). StagedUnder f bodies body a) four_is under))
