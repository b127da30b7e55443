use Rattle.std.proofs.Common.{◌≤◌, length, arith}
use Rattle.ix_heads.proofs.ToldLemmas.{told_join}
use Rattle.ix_heads.proofs.ReadLemmas.{reads_on}
use Rattle.ix_http.proofs.TakingLemmas.{part_more, cut_len}
use Rattle.ix_http.proofs.taking.skip.Goals as goal

pub loop-rest-preserved : goal.loop-rest-preserved
loop-rest-preserved g c =
    let inside : c.in-Ok.taken ≤ length c.read.new.buf = grind (arith, c.in-Ok.ensures.count, c.read.auto.buf) in
    let most = cut_len _ c.in-Ok.taken _ c.in-Ok.ensures.count in
    let fits : c.in-Ok.taken ≤ c.loop-rest.rest = omega (arith, most, c.min-most.ensures) in
    record {
      taken = told_join (λ old mid new p q. part_more c.args.count c.loop-rest.rest c.in-Ok.taken c.read.new.buf inside fits old mid new p
          q) _ _ _ c.loop-rest.invariant.taken c.in-Ok.ensures.bytes;
      reads = reads_on c.loop-rest.invariant.reads (record {
        given = c.read.ensures.given;
        goes = c.read.ensures.goes;
        later = c.read.ensures.cause.later;
      });
    }
