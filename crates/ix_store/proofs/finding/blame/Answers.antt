use Rattle.std.proofs.Common.{◌≡◌, ℕ, List, Err, ap, subst, sym, ◌∙◌}
use Rattle.ix_base.specs.declared.files.File.{File}
use Rattle.ix_disk.specs.Image.{bytes_in}
use Rattle.ix_log.specs.Log.{HasBodies, file_of}
use Rattle.ix_manifest.specs.declared.manifest_state.ReplayFault.{ReplayFault}
use Rattle.ix_manifest.specs.declared.manifest_state.ReplayFault.TheVariants as replays
use Rattle.ix_store.specs.Finding.{name_in, blamed, IsLastSaid}
use Rattle.ix_store.specs.declared.fault.MountFault.{MountFault}
use Rattle.ix_store.specs.declared.fault.MountFault.TheVariants as faults
use Rattle.ix_store.proofs.Said.{last_said}
use Rattle.ix_store.proofs.finding.blame.Goals as goal

blamed_at : (file named : File) (fault : ReplayFault) (at : ℕ) → blamed file fault ≡ faults.Damaged named at → fault ≡ replays.Damaged at
blamed_at file named replays.Disk at is = absurd cc
blamed_at file named (replays.Damaged place) at is = cc
blamed_at file named replays.NoMemory at is = absurd cc

same_file : (file named : File) (place at : ℕ) → faults.Damaged file place ≡ faults.Damaged named at → named ≡ file
same_file file named place at is = cc

same_place : (file named : File) (place at : ℕ) → faults.Damaged file place ≡ faults.Damaged named at → place ≡ at
same_place file named place at is = cc

pub returns-in-Ok-find_last-clause-damaged : goal.returns-in-Ok-find_last-clause-damaged
returns-in-Ok-find_last-clause-damaged g c = λ named at is image told bodies book item has replays stands.
    let name = name_in c.args.subject.now in
    let there = subst (λ (f : File). HasBodies bodies (bytes_in image f)) (sym c.in-Ok.ensures.file) has in
    let found = c.in-Ok-find_last.ensures.found image (c.mount.ensures.same ∙ told) bodies there in (
      same_file c.args.file named c.in-Ok-find_last.at at is,
      subst (λ (place : ℕ). IsLastSaid name item place bodies) (same_place c.args.file named c.in-Ok-find_last.at at is)
          (last_said name item c.in-Ok-find_last.at bodies book replays stands found),
    )

pub returns-clause-damaged : goal.returns-clause-damaged
returns-clause-damaged g c = λ named at is image told bodies book item has replays stands.
    let there = subst (λ (f : File). HasBodies bodies (bytes_in image f)) (sym c.in-Ok.ensures.file) has in
    let blamed_is : blamed c.args.file c.in-Err.fault ≡ faults.Damaged named at = sym c.blamed.ensures ∙ is in
    let fault = blamed_at c.args.file named c.in-Err.fault at blamed_is in
    absurd (c.in-Err.ensures.damaged at (ap (λ (f : ReplayFault). Err f) fault) image (c.mount.ensures.same
    ∙ told) bodies book there replays)
