use Rattle.std.proofs.Common.{take}
use Rattle.httparse.specs.Grammar.{HasNoRequest}
use Rattle.ix_base.specs.Told.{Told, Took}
use Rattle.ix_heads.specs.Fronts.{Fronts}
use Rattle.ix_heads.specs.Reads.{OnlyReads}
use Rattle.ix_heads.proofs.reading.read_head.Given as goal

abbrev pub invariant-loop-i : goal.invariant-loop-i
invariant-loop-i g l =
    let link = g.K.Link in
    record {
      taken : Told (Took (take l.i l.bytes)) (link.left l.fn.link) (link.left l.link);
      none : HasNoRequest (take l.i l.bytes);
      fronts : Fronts l.scan.part (take l.i l.bytes);
      reads : OnlyReads (link.given l.fn.link) (link.given l.link) (link.standing l.fn.link) (link.standing l.link) (link.faults l.fn.link)
          (link.faults l.link);
    }
