use Rattle.std.proofs.Common.{◌≤◌, ◌-◌, take, length}
use Rattle.ix_base.specs.Told.{Told, Took}
use Rattle.ix_heads.specs.Reads.{OnlyReads}
use Rattle.ix_http.proofs.taking.fill.Given as goal

abbrev pub invariant-loop-at : goal.invariant-loop-at
invariant-loop-at g l =
    let link = g.K.Link in
    record {
      taken : Told (Took (take l.at l.buffer)) (link.left l.fn.link) (link.left l.link);
      inside : l.at ≤ length l.buffer;
      reads : OnlyReads (link.given l.fn.link) (link.given l.link) (link.standing l.fn.link) (link.standing l.link) (link.faults l.fn.link)
          (link.faults l.link);
    }

abbrev pub decreases-loop-at : goal.decreases-loop-at
decreases-loop-at g l = length l.initial.buffer - l.at
