use Rattle.std.proofs.Common.{◌∙◌, List, length, take, ap, sym}
use Rattle.std.specs.Prelude.{Err}
use Rattle.ix_model.specs.Shown.{view}
use Rattle.ix_model.specs.Step.{state_after}
use Rattle.ix_model.specs.declared.commands.TimedCommand.{TimedCommand}
use Rattle.ix_report.specs.Listing.{listing}
use Rattle.indexd_selftest.proofs.Results.{err_back, mount_full}
use Rattle.indexd_selftest.proofs.Standing.{may_mount, mounted_whole, no_run}
use Rattle.indexd_selftest.proofs.filling.list.Goals as goal

pub returns-in-Err : goal.returns-in-Err
returns-in-Err g c = record {
  listed = tt;
  full = λ is choose history chooser all.
      let begins = may_mount g.D.Disk g.M.StoreMemory.takes g.M.Book.ManifestState.fits g.M.StoreMemory.holds choose history c.args.disk.now
      all in
      mount_full c.in-Err.fault (sym c.of_mount.ensures ∙ err_back is)
      (λ same. no_run g.D.Disk g.M.StoreMemory.takes g.M.Book.ManifestState.fits g.M.StoreMemory.holds choose history c.args.disk.now
      c.requires.0 (g.met.D.Disk.seen_may_stay c.args.disk.now c.requires.0 c.requires.1) all
      (c.in-Err.ensures.full (ap Err same) c.requires.0 c.requires.1))
      (λ file place same. c.in-Err.ensures.undamaged file place (ap Err same) choose history 1 (length history) chooser all.taken
      begins c.requires.0 c.requires.1);
}

pub returns : goal.returns
returns g c = record {
  listed = λ choose history chooser all.
      let begins = may_mount g.D.Disk g.M.StoreMemory.takes g.M.Book.ManifestState.fits g.M.StoreMemory.holds choose history c.args.disk.now
      all in
      let is = c.in-Ok.ensures.mounted choose history 1 (length history) chooser all.taken begins c.requires.0 c.requires.1 in
      c.in_ok-text.ensures
      ∙ ap listing (c.view.ensures choose (take is.count history) is.count is.count is.hold.old is.hold.staged)
      ∙ ap (λ (h : List TimedCommand). listing (view (state_after choose h)))
      (mounted_whole g.D.Disk g.M.StoreMemory.takes g.M.Book.ManifestState.fits g.M.StoreMemory.holds choose history c.requires.0
      c.in-Ok.store c.mount.new.disk is);
  full = λ is. absurd cc;
}
