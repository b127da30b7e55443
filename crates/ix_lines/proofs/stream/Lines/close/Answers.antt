use Rattle.std.proofs.Common.{◌-◌, length, refl, subst, false, Bool, drop, take, rules, w64}
use mir.Val.{SFits}
use Rattle.std.specs.Bool.{OnFalse}
use Rattle.std.proofs.Math.Facts.{to_z-of_z}
use Rattle.ix_lines.specs.Begun.{Attends}
use Rattle.ix_lines.specs.Walk.{walk}
use Rattle.ix_lines.specs.Breaks.{breaks_by}
use Rattle.ix_lines.specs.Moments.{moments_of}
use Rattle.ix_lines.specs.Pending.{IsPaired, dated_in}
use Rattle.ix_lines.specs.Seek.{last_byte}
use Rattle.ix_lines.proofs.Answering.{any-err, map-ok, map-err}
use Rattle.ix_lines.proofs.Settling.{rest-part, moment-is, rest-lent}
use Rattle.ix_lines.proofs.Feeding.{closed, closed-some, settles-some}
use Rattle.ix_lines.proofs.stream.Lines.close.Goals as goal

pub returns-in_err-stop-clause-added : goal.returns-in_err-stop-clause-added
returns-in_err-stop-clause-added g c =
    let i = c.self.inside in
    any-err c.from_residual.result (rw (← c.self.view_is) (λ stream stands.
    closed-some (breaks_by i.cutter.breaker.pattern) c.self.invariant.0 i.cutter.truncate stream _ i.cutter.kept c.args.out.now
    c.settle.new.out stands refl refl c.in_err-stop.ensures.err))

pub returns-clause-ok : goal.returns-clause-ok
returns-clause-ok g c =
    let i = c.self.inside in
    let bs = i.pending.bytes in
    let ms = moments_of i.pending.runs.items in
    let paired : IsPaired i.pending = subst (λ (b : Bool). OnFalse b (IsPaired i.pending)) c.if-self.false c.self.invariant.2 in
    let all = c.as_slice-bytes.result.now in
    let stop = c.in_ok-stop.stop in
    let m = c.moment_at-moment.result in
    let fits : SFits w64 m = search rules in
    let moment = moment-is i.pending.runs.items c.as_slice-runs.result.now stop m c.as_slice-runs.ensures.value
    c.moment_at-moment.ensures.moment in
    map-ok c.end_line.result c.end_line.ensures.ok (λ e. rw (← c.self.view_is) (λ stream stands.
    closed (breaks_by i.cutter.breaker.pattern) c.self.invariant.0 i.cutter.truncate stream (drop stop (dated_in i.pending))
    (last_byte i.pending.before (take stop bs)) _ i.cutter.kept
    c.settle.new.self.kept c.end_line.new.self c.args.out.now c.settle.new.out c.end_line.new.out (take (length bs - stop) (drop stop bs)) m
    stands refl refl
    c.in_ok-stop.ensures.walk (rest-part bs ms stop m paired moment)
    (λ s p k part. e s p k (rest-lent bs all stop m _ p c.as_slice-bytes.ensures (to_z-of_z fits) part))))

pub returns-clause-added : goal.returns-clause-added
returns-clause-added g c =
    let i = c.self.inside in
    let stop = c.in_ok-stop.stop in
    map-err c.end_line.result c.end_line.ensures.err (λ e. rw (← c.self.view_is) (λ stream stands.
    closed-some (breaks_by i.cutter.breaker.pattern) c.self.invariant.0 i.cutter.truncate stream _ i.cutter.kept c.args.out.now
    c.end_line.new.out stands refl refl
    (λ stretch keeps.
    settles-some i.cutter.truncate (walk (breaks_by i.cutter.breaker.pattern) false i.pending.before stretch 0 (dated_in i.pending))
    (last_byte i.pending.before (take stop i.pending.bytes))
    c.settle.new.self.kept (drop stop (dated_in i.pending)) c.args.out.now c.settle.new.out c.end_line.new.out
    (c.in_ok-stop.ensures.walk stretch keeps) e)))

pub settle-requires-clause-goes_on : goal.settle-requires-clause-goes_on
settle-requires-clause-goes_on g c =
    let i = c.self.inside in
    let on : Attends i.cutter.breaker i.pending.before i.pending.bytes =
    subst (λ (b : Bool). OnFalse b (Attends i.cutter.breaker i.pending.before i.pending.bytes)) c.if-self.false c.self.invariant.3 in
    on.goes_on

pub returns-clause-short : goal.returns-clause-short
returns-clause-short g c = λ short. c.end_line.ensures.short (c.in_ok-stop.ensures.lines short)
