use Rattle.std.proofs.Common.{◌≡◌, ◌∙◌, ◌++◌, ◌+◌, ◌*◌, ◌≤◌, Bool, List, length, refl, sym, ap, subst, drop, take, Option, ℕ, true, rules}
use Rattle.std.proofs.Common.{w64, to_z, of_z, arith}
use mir.Val.{SFits}
use Rattle.std.proofs.Math.Facts.{to_z-of_z}
use Rattle.std.proofs.lemmas.List.{length-drop}
use Rattle.std.proofs.lemmas.Result.{IfOk-from_err}
use Rattle.std.proofs.lemmas.Slice.Zip.{length-zip}
use Rattle.ix_base.specs.Clocks.{clamped}
use Rattle.ix_base.specs.Stream.{Dated, dated}
use Rattle.ix_pattern.specs.Rows.{Shape}
use Rattle.ix_lines.specs.Laws.{IsStable}
use Rattle.ix_lines.specs.Walk.{walk}
use Rattle.ix_lines.specs.Breaks.{breaks_by}
use Rattle.ix_lines.specs.Moments.{moments_of}
use Rattle.ix_lines.specs.Parts.{Held}
use Rattle.std.specs.Bool.{OnFalse}
use Rattle.ix_lines.specs.Begun.{Attends}
use Rattle.ix_lines.specs.Pending.{IsPaired, dated_in}
use Rattle.ix_lines.specs.Seek.{last_byte}
use Rattle.ix_lines.specs.Settle.{Settles}
use Rattle.ix_lines.proofs.Answering.{any-err}
use Rattle.ix_lines.proofs.Looking.{attends-more, left-attends}
use Rattle.ix_lines.proofs.Feeding.{fed-moved, fed-adds, fed-some, fed-none, fed-stands, adds-part}
use Rattle.ix_lines.proofs.stream.Lines.feed.Goals as goal

pub returns-in_err-add-clause-added : goal.returns-in_err-add-clause-added
returns-in_err-add-clause-added g c = any-err c.from_residual.result (rw (← c.self.view_is) (λ stream stands.
    fed-none (breaks_by c.self.inside.cutter.breaker.pattern) c.self.invariant.0 c.self.inside.cutter.truncate stream
    (dated c.args.bytes.now (clamped c.args.moment)) c.args.out.now))

pub returns-in_err-stop-clause-added : goal.returns-in_err-stop-clause-added
returns-in_err-stop-clause-added g c =
    let i = c.self.inside in
    let all = c.add.new.self in
    let fits : SFits w64 c.clamped.result = search rules in
    let when : to_z w64 (of_z w64 c.clamped.result) ≡ clamped c.args.moment = to_z-of_z fits ∙ c.clamped.ensures
    ∙ ap clamped (to_z-of_z c.ranges.moment) in
    let whole = c.in_ok-add.ensures.added ∙ ap (λ m. dated_in i.pending ++ dated c.args.bytes.now m) when in
    any-err c.from_residual-in_err-stop.result (rw (← c.self.view_is) (λ stream stands.
    fed-some (breaks_by i.cutter.breaker.pattern) c.self.invariant.0 i.cutter.truncate stream
    (dated c.args.bytes.now (clamped c.args.moment)) (dated_in all) all.before _ i.cutter.kept
    c.args.out.now c.settle.new.out stands refl refl c.add.ensures.before whole c.in_err-stop.ensures.err))

pub returns-in_err-drop_first-clause-added : goal.returns-in_err-drop_first-clause-added
returns-in_err-drop_first-clause-added g c =
    let i = c.self.inside in
    let all = c.add.new.self in
    let stop = c.in_ok-stop.stop in
    let fits : SFits w64 c.clamped.result = search rules in
    let when : to_z w64 (of_z w64 c.clamped.result) ≡ clamped c.args.moment = to_z-of_z fits ∙ c.clamped.ensures
    ∙ ap clamped (to_z-of_z c.ranges.moment) in
    let whole = c.in_ok-add.ensures.added ∙ ap (λ m. dated_in i.pending ++ dated c.args.bytes.now m) when in
    any-err c.from_residual-in_err-drop_first.result (rw (← c.self.view_is) (λ stream stands.
    adds-part (breaks_by i.cutter.breaker.pattern) i.cutter.truncate stream (dated c.args.bytes.now (clamped c.args.moment)) c.args.out.now
    c.settle.new.out
    (fed-adds (breaks_by i.cutter.breaker.pattern) c.self.invariant.0 i.cutter.truncate stream
    (dated c.args.bytes.now (clamped c.args.moment)) (dated_in all) (drop stop (dated_in all))
    all.before (last_byte all.before (take stop all.bytes)) _ i.cutter.kept c.settle.new.self.kept c.args.out.now c.settle.new.out
    stands refl refl c.add.ensures.before whole c.in_ok-stop.ensures.walk)))

pub returns-clause-ok : goal.returns-clause-ok
returns-clause-ok g c =
    let i = c.self.inside in
    let all = c.add.new.self in
    let left = c.drop_first.new.self in
    let stop = c.in_ok-stop.stop in
    let fits : SFits w64 c.clamped.result = search rules in
    let when : to_z w64 (of_z w64 c.clamped.result) ≡ clamped c.args.moment = to_z-of_z fits ∙ c.clamped.ensures
    ∙ ap clamped (to_z-of_z c.ranges.moment) in
    let whole = c.in_ok-add.ensures.added ∙ ap (λ m. dated_in i.pending ++ dated c.args.bytes.now m) when in
    rw (← c.self.view_is, c.in_ok-stop.ensures.breaker, c.in_ok-stop.ensures.truncate) (λ stream stands. (
      fed-stands (breaks_by i.cutter.breaker.pattern) c.self.invariant.0 i.cutter.truncate stream
          (dated c.args.bytes.now (clamped c.args.moment)) (dated_in all) all.before _ _
          i.cutter.kept c.settle.new.self.kept c.args.out.now c.settle.new.out stands refl refl c.add.ensures.before whole
          (λ stretch keeps.
          subst (λ (l : List Dated). Settles i.cutter.truncate
          (walk (breaks_by i.cutter.breaker.pattern) true all.before stretch 0 (dated_in all)) left.before c.settle.new.self.kept l
          c.args.out.now c.settle.new.out) (sym c.in_ok-drop_first.ensures.left)
          (subst (λ (b : Option ℕ). Settles i.cutter.truncate
          (walk (breaks_by i.cutter.breaker.pattern) true all.before stretch 0 (dated_in all)) b c.settle.new.self.kept
          (drop stop (dated_in all))
          c.args.out.now c.settle.new.out) (sym c.in_ok-drop_first.ensures.before) (c.in_ok-stop.ensures.walk stretch keeps)))
          refl refl refl refl,
      fed-adds (breaks_by i.cutter.breaker.pattern) c.self.invariant.0 i.cutter.truncate stream
          (dated c.args.bytes.now (clamped c.args.moment)) (dated_in all) (drop stop (dated_in all))
          all.before (last_byte all.before (take stop all.bytes)) _ i.cutter.kept c.settle.new.self.kept c.args.out.now c.settle.new.out
          stands refl refl c.add.ensures.before whole c.in_ok-stop.ensures.walk,
    ))

pub returns-clause-pending : goal.returns-clause-pending
returns-clause-pending g c =
    let all = c.add.new.self in
    omega (
      arith,
      ap length c.in_ok-drop_first.ensures.left,
      length-drop c.in_ok-stop.stop (dated_in all),
      length-zip all.bytes (moments_of all.runs.items),
      c.in_ok-add.ensures.paired,
      c.in_ok-stop.ensures.short,
      c.in_ok-stop.ensures.within,
    )

pub settle-requires-clause-goes_on : goal.settle-requires-clause-goes_on
settle-requires-clause-goes_on g c =
    let i = c.self.inside in
    let on = subst (λ (b : Bool). OnFalse b (Attends i.cutter.breaker i.pending.before i.pending.bytes)) c.if-self.false c.self.invariant.3
    in
    attends-more i.cutter.breaker i.pending.before _ i.pending.bytes c.args.bytes.now _ on c.add.ensures.before c.in_ok-add.ensures.bytes

pub returns-clause-counted : goal.returns-clause-counted
returns-clause-counted g c =
    let i = c.self.inside in
    let paired : IsPaired i.pending = subst (λ (b : Bool). OnFalse b (IsPaired i.pending)) c.if-self.false c.self.invariant.2 in
    let moved = fed-moved i.pending c.add.new.self c.drop_first.new.self c.args.bytes.now c.in_ok-stop.stop paired
    c.in_ok-drop_first.ensures.paired c.in_ok-add.ensures.bytes
    c.in_ok-drop_first.ensures.bytes c.in_ok-stop.ensures.within in
    rw (← c.self.view_is)
    (subst (λ (m : ℕ). c.settle.new.steps ≤ c.args.steps.now + i.cutter.breaker.pattern.weight * 512 * (m + 1)) (sym moved)
    c.in_ok-stop.ensures.counted)

pub returns-clause-again : goal.returns-clause-again
returns-clause-again g c =
    let i = c.self.inside in
    let paired : IsPaired i.pending = subst (λ (b : Bool). OnFalse b (IsPaired i.pending)) c.if-self.false c.self.invariant.2 in
    let on : Attends i.cutter.breaker i.pending.before i.pending.bytes =
    subst (λ (b : Bool). OnFalse b (Attends i.cutter.breaker i.pending.before i.pending.bytes)) c.if-self.false c.self.invariant.3 in
    let moved = fed-moved i.pending c.add.new.self c.drop_first.new.self c.args.bytes.now c.in_ok-stop.stop paired
    c.in_ok-drop_first.ensures.paired c.in_ok-add.ensures.bytes
    c.in_ok-drop_first.ensures.bytes c.in_ok-stop.ensures.within in
    rw (← c.self.view_is) (λ some.
    subst (λ (m : ℕ). c.settle.new.steps ≤ c.args.steps.now + i.cutter.breaker.pattern.weight * 512 * m) (sym moved)
    (c.in_ok-stop.ensures.again (on.begun (omega (arith, some, length-zip i.pending.bytes (moments_of i.pending.runs.items))))))

pub invariant_of-self-2 : goal.invariant_of-self-2
invariant_of-self-2 g c =
    let all = c.add.new.self in (
      subst (λ (p : Shape). IsStable (breaks_by p)) (sym c.in_ok-stop.ensures.breaker) c.self.invariant.0,
      omega (arith, c.in_ok-stop.ensures.truncate, c.self.invariant.1),
      c.in_ok-drop_first.ensures.paired,
      left-attends c.settle.new.self.breaker all.before c.drop_first.new.self.before all.bytes c.drop_first.new.self.bytes c.in_ok-stop.stop
          c.in_ok-drop_first.ensures.before
          c.in_ok-drop_first.ensures.bytes c.in_ok-stop.ensures.goes_on c.in_ok-stop.ensures.begun,
    )

pub returns-in_err-add-clause-ok : goal.returns-in_err-add-clause-ok
returns-in_err-add-clause-ok g c = IfOk-from_err c.from_residual.result _ c.from_residual.ensures.0

pub returns-in_err-add-clause-pending : goal.returns-in_err-add-clause-pending
returns-in_err-add-clause-pending g c = IfOk-from_err c.from_residual.result _ c.from_residual.ensures.0

pub returns-in_err-add-clause-counted : goal.returns-in_err-add-clause-counted
returns-in_err-add-clause-counted g c = IfOk-from_err c.from_residual.result _ c.from_residual.ensures.0

pub returns-in_err-add-clause-again : goal.returns-in_err-add-clause-again
returns-in_err-add-clause-again g c = IfOk-from_err c.from_residual.result _ c.from_residual.ensures.0

pub returns-in_err-stop-clause-ok : goal.returns-in_err-stop-clause-ok
returns-in_err-stop-clause-ok g c = IfOk-from_err c.from_residual-in_err-stop.result _ c.from_residual-in_err-stop.ensures.0

pub returns-in_err-stop-clause-pending : goal.returns-in_err-stop-clause-pending
returns-in_err-stop-clause-pending g c = IfOk-from_err c.from_residual-in_err-stop.result _ c.from_residual-in_err-stop.ensures.0

pub returns-in_err-stop-clause-counted : goal.returns-in_err-stop-clause-counted
returns-in_err-stop-clause-counted g c = IfOk-from_err c.from_residual-in_err-stop.result _ c.from_residual-in_err-stop.ensures.0

pub returns-in_err-stop-clause-again : goal.returns-in_err-stop-clause-again
returns-in_err-stop-clause-again g c = IfOk-from_err c.from_residual-in_err-stop.result _ c.from_residual-in_err-stop.ensures.0

pub returns-in_err-drop_first-clause-ok : goal.returns-in_err-drop_first-clause-ok
returns-in_err-drop_first-clause-ok g c = IfOk-from_err c.from_residual-in_err-drop_first.result _
    c.from_residual-in_err-drop_first.ensures.0

pub returns-in_err-drop_first-clause-pending : goal.returns-in_err-drop_first-clause-pending
returns-in_err-drop_first-clause-pending g c = IfOk-from_err c.from_residual-in_err-drop_first.result _
    c.from_residual-in_err-drop_first.ensures.0

pub returns-in_err-drop_first-clause-counted : goal.returns-in_err-drop_first-clause-counted
returns-in_err-drop_first-clause-counted g c = IfOk-from_err c.from_residual-in_err-drop_first.result _
    c.from_residual-in_err-drop_first.ensures.0

pub returns-in_err-drop_first-clause-again : goal.returns-in_err-drop_first-clause-again
returns-in_err-drop_first-clause-again g c = IfOk-from_err c.from_residual-in_err-drop_first.result _
    c.from_residual-in_err-drop_first.ensures.0

pub returns-in_err-stop-clause-breaker : goal.returns-in_err-stop-clause-breaker
returns-in_err-stop-clause-breaker g c = c.settle.ensures.breaker ∙ ap (λ (h : Held). h.breaker) c.self.view_is

pub returns-in_err-stop-clause-truncate : goal.returns-in_err-stop-clause-truncate
returns-in_err-stop-clause-truncate g c = c.settle.ensures.truncate ∙ ap (λ (h : Held). h.parts.truncate) c.self.view_is

pub returns-in_err-stop-clause-short : goal.returns-in_err-stop-clause-short
returns-in_err-stop-clause-short g c = c.settle.ensures.lines

pub returns-in_err-stop-clause-later : goal.returns-in_err-stop-clause-later
returns-in_err-stop-clause-later g c = c.settle.ensures.later

pub returns-in_err-drop_first-clause-breaker : goal.returns-in_err-drop_first-clause-breaker
returns-in_err-drop_first-clause-breaker g c = c.settle.ensures.breaker ∙ ap (λ (h : Held). h.breaker) c.self.view_is

pub returns-in_err-drop_first-clause-truncate : goal.returns-in_err-drop_first-clause-truncate
returns-in_err-drop_first-clause-truncate g c = c.settle.ensures.truncate ∙ ap (λ (h : Held). h.parts.truncate) c.self.view_is

pub returns-in_err-drop_first-clause-short : goal.returns-in_err-drop_first-clause-short
returns-in_err-drop_first-clause-short g c = c.settle.ensures.lines

pub returns-in_err-drop_first-clause-later : goal.returns-in_err-drop_first-clause-later
returns-in_err-drop_first-clause-later g c = c.settle.ensures.later

pub returns-clause-breaker : goal.returns-clause-breaker
returns-clause-breaker g c = c.settle.ensures.breaker ∙ ap (λ (h : Held). h.breaker) c.self.view_is

pub returns-clause-truncate : goal.returns-clause-truncate
returns-clause-truncate g c = c.settle.ensures.truncate ∙ ap (λ (h : Held). h.parts.truncate) c.self.view_is

pub returns-clause-short : goal.returns-clause-short
returns-clause-short g c = c.settle.ensures.lines

pub returns-clause-later : goal.returns-clause-later
returns-clause-later g c = c.settle.ensures.later
