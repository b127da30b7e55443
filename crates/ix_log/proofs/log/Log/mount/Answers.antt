use Rattle.std.proofs.Common.{[], refl, sym, ◌∙◌, arith}
use Rattle.ix_disk.specs.Image.{bytes_in}
use Rattle.ix_disk.proofs.Runs.{stays_on}
use Rattle.ix_log.proofs.Nexts.{as_read_still}
use Rattle.ix_log.proofs.Windows.{empty_on}
use Rattle.ix_log.proofs.log.Log.mount.Goals as goal

pub returns-clause-reading : goal.returns-clause-reading
returns-clause-reading g c = record {
  place = refl;
  idle = refl;
  none_put = refl;
  fresh = refl;
  settled = as_read_still g.D.Disk c.sync.new.self c.length.new.self c.args.file c.length.ensures.images c.length.ensures.same
      c.in_ok-sync.ensures.settled;
  reads = λ image is. record {
    rest = bytes_in image c.args.file;
    spelled = refl;
    measured = c.in_ok-size.ensures.length image (sym c.length.ensures.same ∙ is);
    goes_on = λ lt. omega arith;
    short = λ le. refl;
    fit = tt;
  };
  ahead = λ image is. empty_on c.new.result (bytes_in image c.args.file) c.new.ensures;
}

pub returns-clause-mounted : goal.returns-clause-mounted
returns-clause-mounted g c = record { bodies = []; reading = returns-clause-reading g c }

pub returns-in_err-size-clause-images : goal.returns-in_err-size-clause-images
returns-in_err-size-clause-images g c = stays_on g.D.Disk _ _ _ c.sync.ensures.images c.length.ensures.images

pub returns-clause-images : goal.returns-clause-images
returns-clause-images g c = stays_on g.D.Disk _ _ _ c.sync.ensures.images c.length.ensures.images
