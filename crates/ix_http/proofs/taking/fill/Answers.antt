use Rattle.std.proofs.Common.{◌≤◌, take, length, refl, arith}
use Rattle.std.proofs.lemmas.Slice.{take-put_mid}
use Rattle.ix_heads.proofs.ToldLemmas.{told_join}
use Rattle.ix_heads.proofs.ReadLemmas.{reads_on}
use Rattle.ix_http.proofs.TakingLemmas.{took_more, filled, fill_inside}
use Rattle.ix_http.proofs.taking.fill.Goals as goal

pub loop-at-preserved : goal.loop-at-preserved
loop-at-preserved g c =
    let fits : c.in-Ok.taken ≤ length c.read.new.buf = grind (arith, c.in-Ok.ensures.count, c.read.auto.buf) in
    record {
      taken = told_join (λ old mid new p q. took_more (take c.loop-at.at c.loop-at.buffer) (take c.in-Ok.taken c.read.new.buf) _ old mid new
          (filled c.loop-at.at c.in-Ok.taken c.loop-at.buffer c.read.new.buf _ c.loop-at.invariant.inside fits
          (take-put_mid c.loop-at.at _ c.loop-at.buffer c.read.new.buf _ refl c.loop-at.invariant.inside)) p q) _ _ _
          c.loop-at.invariant.taken c.in-Ok.ensures.bytes;
      inside = fill_inside c.loop-at.at c.in-Ok.taken c.loop-at.buffer c.read.new.buf _ c.loop-at.invariant.inside fits
          (take-put_mid c.loop-at.at _ c.loop-at.buffer c.read.new.buf _ refl c.loop-at.invariant.inside);
      reads = reads_on c.loop-at.invariant.reads (record {
        given = c.read.ensures.given;
        goes = c.read.ensures.goes;
        later = c.read.ensures.cause.later;
      });
    }
