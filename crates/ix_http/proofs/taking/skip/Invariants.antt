use Rattle.ix_base.specs.Told.{Told}
use Rattle.ix_heads.specs.Reads.{OnlyReads}
use Rattle.ix_http.specs.Behind.{TakesPart}
use Rattle.ix_http.proofs.taking.skip.Given as goal

abbrev pub invariant-loop-rest : goal.invariant-loop-rest
invariant-loop-rest g l =
    let link = g.K.Link in
    record {
      taken : Told (TakesPart l.count l.rest) (link.left l.fn.link) (link.left l.link);
      reads : OnlyReads (link.given l.fn.link) (link.given l.link) (link.standing l.fn.link) (link.standing l.link) (link.faults l.fn.link)
          (link.faults l.link);
    }

abbrev pub decreases-loop-rest : goal.decreases-loop-rest
decreases-loop-rest g l = l.rest
