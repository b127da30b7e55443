use Rattle.std.proofs.Common.{◌+◌, [], length, refl, ap, ◌∙◌, sym, arith}
use Rattle.std.proofs.lemmas.Result.{err_from_is_err_and}
use Rattle.ix_disk.specs.Image.{bytes_in}
use Rattle.ix_disk.proofs.Runs.{nowhere}
use Rattle.ix_log.proofs.Exits.{no_fault, disk_no_damage, memory_no_damage, memory_no_disk, damage_no_disk}
use Rattle.ix_log.proofs.Windows.{filled_up, body_fits, body_size, body_cut, body_whole}
use Rattle.ix_log.proofs.log.Log.body.Goals as goal

pub returns-then-is_err : goal.returns-then-is_err
returns-then-is_err g c = record {
  read = λ reads image told. tt;
  sized = tt;
  damaged = λ reads image told at is. absurd (memory_no_damage at is);
  same = refl;
  images = nowhere g.D.Disk c.args.disk.now;
  later = omega arith;
  cause = λ is. absurd (memory_no_disk is);
}

pub read-requires : goal.read-requires
read-requires g c =
    body_fits c.args.len c.resize.new.self.len c.as_mut_slice-buf.result.now []
    (filled_up c.resize.result c.is_err.result c.resize.new.self.len c.args.len _ c.resize.ensures.len c.is_err.ensures.negation
    c.if-is_err.false)
    (ap length c.as_mut_slice-buf.ensures.value ∙ sym c.resize.new.self.ok.0) c.args.self.now.at c.args.self.now.in_range.0
    c.ranges.len.fits

pub returns-in_err-n : goal.returns-in_err-n
returns-in_err-n g c =
    let p = err_from_is_err_and c.from_residual.result c.from_residual.ensures.1 in
    rw (p.1, p.2) (record {
      read = λ reads image told. tt;
      sized = tt;
      damaged = λ reads image told at is. absurd (disk_no_damage at is);
      same = c.read.ensures.same;
      images = c.read.ensures.images;
      later = c.read.ensures.cause.later;
      cause = λ is. c.in_err-n.ensures.cause.failed refl;
    })

pub returns-then-n-len : goal.returns-then-n-len
returns-then-n-len g c = record {
  read = λ reads image told. tt;
  sized = tt;
  damaged = λ reads image told at is.
      body_cut c.args.len c.resize.new.self.len c.as_mut_slice-buf.result.now c.read.new.buf
      (filled_up c.resize.result c.is_err.result c.resize.new.self.len c.args.len _ c.resize.ensures.len c.is_err.ensures.negation
      c.if-is_err.false)
      (ap length c.as_mut_slice-buf.ensures.value ∙ sym c.resize.new.self.ok.0) c.read.ensures.size (bytes_in image c.args.self.now.file)
      (c.args.self.now.at + 5) c.in_ok-n.n (c.in_ok-n.ensures.bytes image told (reads image told)) c.if-n-len.true;
  same = c.read.ensures.same;
  images = c.read.ensures.images;
  later = c.read.ensures.cause.later;
  cause = λ is. absurd (damage_no_disk c.args.self.now.at is);
}

pub returns : goal.returns
returns g c = record {
  read = λ reads image told whole.
      body_whole c.args.len c.resize.new.self.len c.as_mut_slice-buf.result.now c.read.new.buf
      (filled_up c.resize.result c.is_err.result c.resize.new.self.len c.args.len _ c.resize.ensures.len c.is_err.ensures.negation
      c.if-is_err.false)
      (ap length c.as_mut_slice-buf.ensures.value ∙ sym c.resize.new.self.ok.0) c.read.ensures.size (bytes_in image c.args.self.now.file)
      (c.args.self.now.at + 5) c.in_ok-n.n (c.in_ok-n.ensures.bytes image told (reads image told)) c.if-n-len.false _ _
      c.from_vec.ensures;
  sized =
      body_size c.args.len c.resize.new.self.len c.as_mut_slice-buf.result.now c.read.new.buf
      (filled_up c.resize.result c.is_err.result c.resize.new.self.len c.args.len _ c.resize.ensures.len c.is_err.ensures.negation
      c.if-is_err.false)
      (ap length c.as_mut_slice-buf.ensures.value ∙ sym c.resize.new.self.ok.0) c.read.ensures.size _ _ c.from_vec.ensures;
  damaged = λ reads image told at is. absurd (no_fault _ _ is);
  same = c.read.ensures.same;
  images = c.read.ensures.images;
  later = c.read.ensures.cause.later;
  cause = λ is. absurd (no_fault _ _ is);
}
